-- What the values of the code mean. Of a code, a reference or an identifier the meaning is its field `bytes`, and of an amount
-- its field `kopecks`.
use Rattle.std.specs.Prelude.{ℕ, List, take}
use Rattle.values.specs.declared.text.PrintedText.{PrintedText}

-- the characters of a text
abbrev pub characters : {w : ℕ} → PrintedText w → List ℕ
characters t = take t.len t.bytes
