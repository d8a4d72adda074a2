-- Values that follow one from the other.
use Rattle.std.proofs.Common.{◌≡◌, Some, Option, sym, ap}
use Rattle.block.specs.Following.{given}

-- a value that is there
pub given-some : {A B : Type 0} (o : Option A) (x : A) (next : A → Option B) → Some x ≡ o → given o next ≡ next x
given-some o x next e = ap (λ v. given v next) (sym e)
