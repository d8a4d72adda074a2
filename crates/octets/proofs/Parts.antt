-- Byte strings, byte by byte.
use Rattle.std.proofs.Common.{◌≡◌, ℕ, zero, suc, ◌<◌, Bool, true, false, List, [], ◌∷◌, length, get_or, is_some, Some, None, Option, refl, not-suc-le-zero, arith}
use Rattle.std.proofs.lemmas.Slice.Eq.{text_from_reads}
use Rattle.std.proofs.lemmas.Bool.{and_parts}
use Rattle.std.specs.Option.{option_map}
use Rattle.octets.specs.Bytes.{every, kept}

-- the first eight bytes, one by one
abbrev pub first_eight : List ℕ → List ℕ
first_eight bs = get_or bs 0 0 ∷ get_or bs 1 0 ∷ get_or bs 2 0 ∷ get_or bs 3 0 ∷ get_or bs 4 0 ∷ get_or bs 5 0 ∷ get_or bs 6 0 ∷ get_or bs 7 0 ∷ []

pub eight : (bs : List ℕ) → length bs ≡ 8 → bs ≡ first_eight bs
eight bs h = text_from_reads bs _ h (refl, (refl, (refl, (refl, (refl, (refl, (refl, (refl, tt))))))))

-- what holds of each byte holds of the byte at i
pub every_at : (test : ℕ → Bool) (bs : List ℕ) (i : ℕ) → i < length bs → every test bs ≡ true → test (get_or bs i 0) ≡ true
every_at test [] i h e = absurd (not-suc-le-zero h)
every_at test (b ∷ bs) zero h e = (and_parts (test b) (every test bs) e).0
every_at test (b ∷ bs) (suc i) h e = every_at test bs i (omega arith) (and_parts (test b) (every test bs) e).1

-- what is kept is fit, and the bytes as they were
pub kept-some : (fit : Bool) (bs xs : List ℕ) → Some xs ≡ kept fit bs → (fit ≡ true) × (xs ≡ bs)
kept-some true bs xs e = (refl, cc)
kept-some false bs xs e = absurd (let z : ◌≡◌ {A = ℕ} 0 1 = cc in omega arith)

pub kept-none : (fit : Bool) (bs : List ℕ) → None ≡ kept fit bs → fit ≡ false
kept-none true bs e = absurd (let z : ◌≡◌ {A = ℕ} 0 1 = cc in omega arith)
kept-none false bs e = refl

-- something is read exactly where the bytes are fit
pub is_some_kept : (fit : Bool) (bs : List ℕ) → is_some (kept fit bs) ≡ fit
is_some_kept true bs = refl
is_some_kept false bs = refl

pub is_some_mapped : {X Y : Type 0} (f : X → Y) (o : Option X) → is_some (option_map f o) ≡ is_some o
is_some_mapped f None = refl
is_some_mapped f (Some x) = refl
