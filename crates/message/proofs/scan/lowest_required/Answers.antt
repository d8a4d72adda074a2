use Rattle.std.proofs.Common.{◌≡◌, rules, tests, arith}
use Rattle.std.proofs.lemmas.Grind.{common_steps}
use Rattle.std.specs.Option.{option_map}
use Rattle.std.specs.List.{find}
use Rattle.std.proofs.lemmas.Iterator.{YieldsList-from_slice}
use Rattle.std.proofs.lemmas.Iterator.Search.{find_from_yields_List}
use Rattle.message.specs.Shapes.{is_required}
use Rattle.message.proofs.Slots.{first_required}
use Rattle.message.proofs.scan.lowest_required.Goals as goal

pub returns : goal.returns
returns c =
    let f : option_map (λ s. s.now) c.find.result ≡ find is_required c.args.slots.now = find_from_yields_List is_required _ _ _ c.find.ensures.ran (YieldsList-from_slice c.args.slots.now cc) (λ x b q k. search (rules, tests)) in
    let r = first_required c.args.slots.now in
    grind (arith, common_steps)
