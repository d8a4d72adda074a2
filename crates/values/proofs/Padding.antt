-- Bytes with zeros behind them.
use Rattle.std.proofs.Common.{◌≡◌, ℕ, ◌-◌, List, length, take, replicate, refl}
use Rattle.std.proofs.lemmas.List.{take_at}
use Rattle.values.specs.Texts.{padded}

module _ (w : ℕ) where
  -- the bytes are in front of the zeros
  pub take-padded : (bs : List ℕ) → take (length bs) (padded w bs) ≡ bs
  unfolding padded
  take-padded bs = take_at bs (replicate (w - length bs) 0) (length bs) refl
