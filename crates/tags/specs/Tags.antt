-- The listed tags: which fields a block may hold, how long each value may be and what form it has.
use Rattle.std.specs.Prelude.{ℕ, Bool, false, ◌&&◌, List, [], ◌∷◌, Some, None, Option, nat_le, slice_index_or}
use Rattle.tags.specs.declared.listing.Tag.{Tag}
use Rattle.tags.specs.declared.listing.Tag.TheVariants as tag
use Rattle.tags.specs.declared.listing.Form.{Form}
use Rattle.tags.specs.declared.listing.Form.TheVariants as form
use Rattle.tags.specs.declared.listing.Rule.{Rule}

-- a tag whose values all have n bytes
abbrev pub fixed : Tag → ℕ → Form → Option Rule
fixed t n f = Some (record { tag = t; least = n; most = n; form = f })

-- a tag whose values are 1 to n bytes of text
abbrev pub text : Tag → ℕ → Option Rule
text t n = Some (record { tag = t; least = 1; most = n; form = form.Text })

-- what is listed of each tag, at its number from 0 on; 0, 14 and 15 are no tags
abbrev pub rules : List (Option Rule)
rules =
    None
    ∷ fixed tag.Kind 1 form.Number
    ∷ fixed tag.Identifier 20 form.Identifier
    ∷ fixed tag.CreationDate 8 form.Code
    ∷ fixed tag.Assigner 6 form.Code
    ∷ fixed tag.Assignee 6 form.Code
    ∷ fixed tag.NumberOfTransactions 2 form.Number
    ∷ fixed tag.OriginalKind 1 form.Number
    ∷ fixed tag.OriginalIdentifier 20 form.Identifier
    ∷ fixed tag.DebtorAgent 6 form.Code
    ∷ fixed tag.Verdict 1 form.Number
    ∷ fixed tag.ErrorCode 4 form.Code
    ∷ fixed tag.State 1 form.Number
    ∷ fixed tag.ClosingIdentifier 20 form.Identifier
    ∷ None
    ∷ None
    ∷ fixed tag.Uetr 16 form.Identifier
    ∷ text tag.EndToEnd 35
    ∷ fixed tag.Amount 8 form.Number
    ∷ fixed tag.Status 4 form.Code
    ∷ fixed tag.Reason 4 form.Code
    ∷ text tag.Text 105
    ∷ fixed tag.CreditorAgent 6 form.Code
    ∷ []

-- what is listed of the tag with the number t, if it is listed
abbrev pub rule_of : ℕ → Option Rule
rule_of t = slice_index_or rules t None

-- the number of a tag
abbrev pub number_of : Tag → ℕ
number_of tag.Kind = 1
number_of tag.Identifier = 2
number_of tag.CreationDate = 3
number_of tag.Assigner = 4
number_of tag.Assignee = 5
number_of tag.NumberOfTransactions = 6
number_of tag.OriginalKind = 7
number_of tag.OriginalIdentifier = 8
number_of tag.DebtorAgent = 9
number_of tag.Verdict = 10
number_of tag.ErrorCode = 11
number_of tag.State = 12
number_of tag.ClosingIdentifier = 13
number_of tag.Uetr = 16
number_of tag.EndToEnd = 17
number_of tag.Amount = 18
number_of tag.Status = 19
number_of tag.Reason = 20
number_of tag.Text = 21
number_of tag.CreditorAgent = 22

-- under this rule a value may have n bytes
abbrev pub admits : Rule → ℕ → Bool
admits r n = nat_le r.least n && nat_le n r.most

-- the same where a tag may be unlisted
abbrev pub admitted : Option Rule → ℕ → Bool
admitted None n = false
admitted (Some r) n = admits r n

-- the tag with the number t is listed, and its values may have n bytes
unfoldable pub listed : ℕ → ℕ → Bool
listed t n = admitted (rule_of t) n
