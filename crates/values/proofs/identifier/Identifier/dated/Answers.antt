use Rattle.std.proofs.Common.{◌≡◌, ap, ◌∙◌}
use Rattle.std.proofs.lemmas.Bool.Decides.{Decides-at}
use Rattle.octets.specs.Bytes.{same_bytes}
use Rattle.values.specs.Identifiers.{date_part, is_dated}
use Rattle.dates.specs.Views.{view}
use Rattle.values.proofs.Identifiers.{dated_decides}
use Rattle.values.proofs.identifier.Identifier.dated.Goals as goal

pub returns : goal.returns
unfolding is_dated
returns c =
    let id = c.args.self.now.bytes in
    let day = c.args.date.now in
    let e : c.same_bytes.result ≡ is_dated id (view day) = c.same_bytes.ensures.value ∙ ap (same_bytes (date_part id)) c.digits.ensures.value in
    record { value = e; reads = Decides-at _ _ e (dated_decides id (view day) day.real) }
