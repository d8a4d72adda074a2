use Rattle.std.proofs.Common.{rules, ◌≡◌, Bool, sym, ◌∙◌}
use Rattle.std.proofs.lemmas.List.{take_all}
use Rattle.std.specs.List.{position}
use Rattle.table.proofs.Bridges.{place_position}
use Rattle.table.proofs.Table.find.Goals as goal

pub returns : goal.returns
returns g c =
    let called : g.row.R.Denot → Bool = λ x. g.R.Row.called x c.args.name.now in
    let found : c.place_in.result ≡ position called c.args.self.now.rows = search (rules, take_all) in
    found ∙ sym (place_position called c.args.self.now.rows)
