use Rattle.std.proofs.Common.{◌≡◌, ◌&&◌, sym, ap, ◌∙◌}
use Rattle.values.specs.Identifiers.{begins_with}
use Rattle.values.proofs.identifier.Identifier.begins_with.Goals as goal

pub returns : goal.returns
returns c =
    let id = c.args.self.now.bytes in
    let code = c.args.code.now.bytes in
    let e : c.same_bytes.result ≡ begins_with id code = c.same_bytes.ensures.value in
    record { value = e; suits = e ∙ sym (ap (λ x. x && begins_with id code) c.args.self.now.formed) }
