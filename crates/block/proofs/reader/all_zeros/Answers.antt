use Rattle.std.proofs.Common.{◌≡◌, ◌≢◌, ℕ, ◌<◌, length, get_or, sym, ap, rules}
use Rattle.block.specs.Reading.{judged}
use Rattle.block.proofs.Scanning.{blank_stops, blank_ends}
use Rattle.block.proofs.reader.all_zeros.Goals as goal

pub returns-in-Some : goal.returns-in-Some
returns-in-Some c =
    let bs = c.args.bytes.now in
    let h : c.in-Some.place < length bs = search rules in
    let n : get_or bs c.in-Some.place 0 ≢ 0 = search rules in
    let z : (k : ℕ) → k < c.in-Some.place → get_or bs k 0 ≡ 0 = search rules in
    ap judged (sym (blank_stops c.args.at bs c.in-Some.place h n z))

pub returns-in-None : goal.returns-in-None
returns-in-None c =
    let z : (k : ℕ) → k < length c.args.bytes.now → get_or c.args.bytes.now k 0 ≡ 0 = search rules in
    ap judged (sym (blank_ends c.args.at c.args.bytes.now z))
