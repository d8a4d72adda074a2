use Rattle.std.proofs.Common.{◌≡◌, ◌&&◌, take, drop, is_some, sym, ap, ◌∙◌, rules}
use Rattle.values.specs.Codes.{member_code}
use Rattle.dates.specs.Dates.{read_date}
use Rattle.values.specs.Identifiers.{identifier}
use Rattle.dates.specs.Views.{view}
use Rattle.octets.proofs.Parts.{is_some_kept, is_some_mapped}
use Rattle.values.proofs.Identifiers.{by_parts}
use Rattle.values.proofs.identifier.is_formed.Goals as goal
use Rattle.values.proofs.identifier.is_formed.Goals.{After-admits_all-serial}

-- the three tests that the code makes
tested : (c : After-admits_all-serial) → identifier c.args.bytes.now ≡ (c.is_some-code.result && c.is_some-date.result && c.admits_all-serial.result)
tested c =
    let bs = c.args.bytes.now in
    let code : c.is_some-code.result ≡ member_code (take 6 bs) =
    c.is_some-code.ensures ∙ sym (is_some_mapped (λ m. m.bytes) c.read.result) ∙ ap is_some c.read.ensures.value ∙ is_some_kept (member_code (take 6 bs)) (take 6 bs) in
    let date : c.is_some-date.result ≡ is_some (read_date (take 8 (drop 6 bs))) =
    c.is_some-date.ensures ∙ sym (is_some_mapped view c.read-2.result) ∙ ap is_some c.read-2.ensures.value in
    by_parts bs c.told-bytes ∙ cc (code, date, c.admits_all-serial.ensures)

pub returns-then-date : goal.returns-then-date
returns-then-date c = let e = tested (goal.at.returns-then-date c).After-admits_all-serial in search rules

pub returns-else-date : goal.returns-else-date
returns-else-date c = let e = tested (goal.at.returns-else-date c).After-admits_all-serial in search rules
