-- What stands in rows that are vacant.
use Rattle.std.specs.Prelude.{replicate, codes}
use Rattle.cases.specs.Cases.{CaseValue, request, opened}

-- a case that no book shows
abbrev pub vacant : CaseValue
vacant =
    record {
      name = record { identifier = codes "00000020000101000000"; uetr = replicate 16 1 };
      subject = request;
      end_to_end = codes "-";
      amount = 1;
      opener = codes "000000";
      assignee = codes "000000";
      state = opened;
    }
