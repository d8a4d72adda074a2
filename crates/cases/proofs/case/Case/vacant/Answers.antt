use Rattle.std.proofs.Common.{◌≡◌, true, is_some, codes, sym, refl, ap, ◌∙◌}
use Rattle.octets.proofs.Parts.{is_some_mapped}
use Rattle.dates.specs.Dates.{month_length, real_date, read_date}
use Rattle.values.specs.Identifiers.{identifier, read_identifier}
use Rattle.cases.proofs.case.Case.vacant.Goals as goal

formed : is_some (read_identifier (codes "00000020000101000000")) ≡ true
unfolding identifier read_date real_date month_length
formed = refl

pub unwrap-requires : goal.unwrap-requires
unwrap-requires c = sym (is_some_mapped (λ i. i.bytes) c.read-2.result) ∙ ap is_some c.read-2.ensures.value ∙ formed
