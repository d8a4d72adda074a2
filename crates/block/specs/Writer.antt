-- What a writer holds, and what it answers to a field.
use Rattle.std.specs.Prelude.{ℕ, Bool, cond, List, Some, None, Ok, Err, Option, Result, nat_lt}
use Rattle.tags.specs.declared.listing.Rule.{Rule}
use Rattle.tags.specs.declared.faults.FieldRefusal.{FieldRefusal}
use Rattle.tags.specs.declared.faults.FieldRefusal.TheVariants.{UnlistedTag, UnlistedLength, NotRising}
use Rattle.block.specs.declared.writer.BlockWriter.{BlockWriter}
use Rattle.tags.specs.Tags.{rule_of, admits}
use Rattle.block.specs.Fields.{FieldValue, fields_of}

-- the fields put so far
abbrev pub written : BlockWriter → List FieldValue
written w = fields_of w.block.now

-- what a tag with this rule, if it is listed, gets for n bytes of value; rises says whether it is above the tag before
abbrev pub by_rule : Option Rule → ℕ → Bool → Result (Unit {0}) FieldRefusal
by_rule None n rises = Err UnlistedTag
by_rule (Some r) n rises = cond (admits r n) (cond rises (Ok tt) (Err NotRising)) (Err UnlistedLength)

-- what a field with the tag t and n bytes of value gets behind the tag p
unfoldable pub put_answer : ℕ → ℕ → ℕ → Result (Unit {0}) FieldRefusal
put_answer p t n = by_rule (rule_of t) n (nat_lt p t)
