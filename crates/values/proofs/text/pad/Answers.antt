use Rattle.std.proofs.Common.{ℕ, length, rules}
use Rattle.std.proofs.lemmas.List.{drop-replicate}
use Rattle.values.specs.Texts.{padded}
use Rattle.values.proofs.text.pad.Goals as goal

pub returns : goal.returns
unfolding padded
returns g c = rw (drop-replicate {X = ℕ} (length c.args.bytes.now) g.row.W 0) (search rules)
