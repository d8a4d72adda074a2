-- What reads has a content: every value that a message of its kind says is there and fit.
use Rattle.std.proofs.Common.{◌≡◌, ℕ, ◌+◌, ◌<◌, Bool, true, cond, ◌&&◌, eqb, leb, List, [], ◌∷◌, length, is_some, is_ok, Some, None, Ok, Err, Option, sym, refl, ap, ◌∙◌, arith}
use Rattle.std.specs.Result.{result_ok}
use Rattle.std.proofs.lemmas.Bool.{eq-eqb, ne_eqb, leb-true, and_parts, false≢true}
use Rattle.tags.specs.declared.listing.Tag.{Tag}
use Rattle.tags.specs.declared.listing.Tag.TheVariants as tag
use Rattle.tags.specs.Tags.{number_of, listed}
use Rattle.block.specs.Fields.{FieldValue, Legal, value_of}
use Rattle.block.specs.Following.{given, if_given}
use Rattle.octets.specs.Bytes.{kept, read_byte, read_pair}
use Rattle.values.specs.Codes.{member_code, uetr, status, reason, read_member_code, read_uetr, read_status, read_reason}
use Rattle.values.specs.Texts.{end_to_end, text, read_end_to_end, read_text}
use Rattle.values.specs.Amounts.{read_amount}
use Rattle.dates.specs.Dates.{read_date}
use Rattle.octets.proofs.Parts.{is_some_kept, is_some_mapped}
use Rattle.values.specs.declared.kind.Kind.{Kind}
use Rattle.values.specs.declared.kind.Kind.TheVariants.{Request, Report, Reply, Recall}
use Rattle.values.specs.Kinds.{kind_of}
use Rattle.message.specs.Shapes.{shape, tag_fault}
use Rattle.message.specs.Fitness.{fits, value_fault}
use Rattle.message.specs.Messages.{MessageReading, role, first_fault, tags_fault, values_fault, kind_by, first_tags_fault, misplaced_tag, unfit_value, judged_fields, read_message, AllLegal}
use Rattle.message.proofs.Presence.{demanded, present, Fit, fit_value}
use Rattle.message.proofs.Forms.{unless_ok}
use Rattle.message.proofs.Gathering.{located_none}
use Rattle.content.specs.Records.{request, recall, report, reply, requested, recalled}
use Rattle.items.specs.Items.{read_raw_identifier, identifier_in, member_code_in, uetr_in, end_to_end_in, amount_in}
use Rattle.content.specs.Items.{number_in, creation_date_in}
use Rattle.content.specs.Decoding.{original_in, purpose_in, header_in, answer_in, detail_in, transaction_in, transactions_in, header_kind, content_of, content_in, decoded}
use Rattle.block.proofs.Chaining.{given-some}
use Rattle.content.proofs.Fronts.{read_holds}

-- bytes of a length that is listed alone
only_length : (k n : ℕ) → (leb k n && leb n k) ≡ true → n ≡ k
only_length k n e =
    let a = and_parts (leb k n) (leb n k) e in
    omega (arith, leb-true k n a.0, leb-true n k a.1)

byte_reads : (v : List ℕ) → length v ≡ 1 → is_some (read_byte v) ≡ true
byte_reads [] e = absurd (omega (arith, e))
byte_reads (n ∷ []) e = refl
byte_reads (n ∷ m ∷ ns) e = absurd (omega (arith, e))

number_reads : (v : List ℕ) → length v ≡ 2 → is_some (read_pair v) ≡ true
number_reads [] e = absurd (omega (arith, e))
number_reads (h ∷ []) e = absurd (omega (arith, e))
number_reads (h ∷ l ∷ []) e = refl
number_reads (h ∷ l ∷ n ∷ ns) e = absurd (omega (arith, e))

kept_reads : (fit : Bool) (v : List ℕ) → fit ≡ true → is_some (kept fit v) ≡ true
kept_reads fit v e = is_some_kept fit v ∙ e

-- what follows from a value that is there
some_given : {A B : Type 0} (o : Option A) (next : A → Option B) → is_some o ≡ true → ((x : A) → is_some (next x) ≡ true) → is_some (given o next) ≡ true
some_given None next e h = absurd (false≢true e)
some_given (Some x) next e h = h x

module _ {B : Type 0} (t : Tag) (next : List ℕ → Option B) where
  required_field : (o : Option (List ℕ)) → is_some o ≡ true → Fit t o → ((v : List ℕ) → fits t v ≡ true → listed (number_of t) (length v) ≡ true → is_some (next v) ≡ true) → is_some (given o next) ≡ true
  required_field None e f h = absurd (false≢true e)
  required_field (Some v) e f h = h v f.0 f.1

  optional_field : (o : Option (List ℕ)) → Fit t o → ((v : List ℕ) → fits t v ≡ true → is_some (next v) ≡ true) → is_some (if_given o next) ≡ true
  optional_field None f h = refl
  optional_field (Some v) f h = some_given (next v) (λ y. Some (Some y)) (h v f.0) (λ y. refl)

-- block n of a message of this kind, without a fault
module _ (k : Kind) (n : ℕ) (fs : List FieldValue) (legal : Legal 0 fs) (tags : tags_fault k n fs ≡ None) (values : value_fault fs ≡ None) where
  stands : {B : Type 0} (t : Tag) (next : List ℕ → Option B) → demanded k n (number_of t) ≡ true → ((v : List ℕ) → fits t v ≡ true → listed (number_of t) (length v) ≡ true → is_some (next v) ≡ true) → is_some (given (value_of (number_of t) fs) next) ≡ true
  stands t next d h = required_field t next (value_of (number_of t) fs) (present k n fs (number_of t) tags d) (fit_value t 0 fs legal values) h

  may_stand : {B : Type 0} (t : Tag) (next : List ℕ → Option B) → ((v : List ℕ) → fits t v ≡ true → is_some (next v) ≡ true) → is_some (if_given (value_of (number_of t) fs) next) ≡ true
  may_stand t next h = optional_field t next (value_of (number_of t) fs) (fit_value t 0 fs legal values) h

  identifier_stands : demanded k n 2 ≡ true → is_some (identifier_in 2 fs) ≡ true
  unfolding listed
  identifier_stands d = stands tag.Identifier read_raw_identifier d (λ v f l. kept_reads (eqb (length v) 20) v (eq-eqb (length v) 20 (only_length 20 (length v) l)))

  date_stands : demanded k n 3 ≡ true → is_some (creation_date_in fs) ≡ true
  date_stands d = stands tag.CreationDate read_date d (λ v f l. f)

  assigner_stands : demanded k n 4 ≡ true → is_some (member_code_in 4 fs) ≡ true
  assigner_stands d = stands tag.Assigner read_member_code d (λ v f l. kept_reads (member_code v) v f)

  assignee_stands : demanded k n 5 ≡ true → is_some (member_code_in 5 fs) ≡ true
  assignee_stands d = stands tag.Assignee read_member_code d (λ v f l. kept_reads (member_code v) v f)

  number_stands : demanded k n 6 ≡ true → is_some (number_in fs) ≡ true
  unfolding listed
  number_stands d = stands tag.NumberOfTransactions read_pair d (λ v f l. number_reads v (only_length 2 (length v) l))

  original_stands : demanded k n 7 ≡ true → demanded k n 8 ≡ true → is_some (original_in fs) ≡ true
  unfolding listed
  original_stands d e =
      some_given _ _ (stands tag.OriginalKind read_byte d (λ v f l. byte_reads v (only_length 1 (length v) l))) (λ x.
      some_given _ _ (stands tag.OriginalIdentifier read_raw_identifier e (λ v f l. kept_reads (eqb (length v) 20) v (eq-eqb (length v) 20 (only_length 20 (length v) l)))) (λ y. refl))

  debtor_agent_stands : demanded k n 9 ≡ true → is_some (member_code_in 9 fs) ≡ true
  debtor_agent_stands d = stands tag.DebtorAgent read_member_code d (λ v f l. kept_reads (member_code v) v f)

  uetr_stands : demanded k n 16 ≡ true → is_some (uetr_in fs) ≡ true
  uetr_stands d = stands tag.Uetr read_uetr d (λ v f l. kept_reads (uetr v) v f)

  end_to_end_stands : demanded k n 17 ≡ true → is_some (end_to_end_in fs) ≡ true
  end_to_end_stands d = stands tag.EndToEnd read_end_to_end d (λ v f l. kept_reads (end_to_end v) v f)

  amount_stands : demanded k n 18 ≡ true → is_some (amount_in fs) ≡ true
  amount_stands d = stands tag.Amount read_amount d (λ v f l. f)

  creditor_agent_stands : demanded k n 22 ≡ true → is_some (member_code_in 22 fs) ≡ true
  creditor_agent_stands d = stands tag.CreditorAgent read_member_code d (λ v f l. kept_reads (member_code v) v f)

  answer_stands : demanded k n 19 ≡ true → is_some (answer_in fs) ≡ true
  answer_stands d =
      some_given _ _ (stands tag.Status read_status d (λ v f l. kept_reads (status v) v f)) (λ x.
      some_given _ _ (may_stand tag.Reason read_reason (λ v f. kept_reads (reason v) v f)) (λ y.
      some_given _ _ (may_stand tag.Text read_text (λ v f. kept_reads (text v) v f)) (λ z. refl)))

  header_stands : demanded k n 2 ≡ true → demanded k n 3 ≡ true → demanded k n 4 ≡ true → demanded k n 5 ≡ true → demanded k n 6 ≡ true → is_some (purpose_in k fs) ≡ true → is_some (header_in k fs) ≡ true
  header_stands a b c d e p =
      some_given _ _ (identifier_stands a) (λ v.
      some_given _ _ (date_stands b) (λ w.
      some_given _ _ (assigner_stands c) (λ x.
      some_given _ _ (assignee_stands d) (λ y.
      some_given _ _ (number_stands e) (λ z.
      some_given _ _ p (λ u. refl))))))

  transaction_stands : demanded k n 16 ≡ true → demanded k n 17 ≡ true → is_some (detail_in k fs) ≡ true → is_some (transaction_in k fs) ≡ true
  transaction_stands a b p = some_given _ _ (uetr_stands a) (λ x. some_given _ _ (end_to_end_stands b) (λ y. some_given _ _ p (λ z. refl)))

-- kind by kind
header_reads : (k : Kind) (fs : List FieldValue) → Legal 0 fs → tags_fault k 0 fs ≡ None → value_fault fs ≡ None → is_some (header_in k fs) ≡ true
header_reads Request fs l t v = header_stands Request 0 fs l t v refl refl refl refl refl (is_some_mapped request (member_code_in 9 fs) ∙ debtor_agent_stands Request 0 fs l t v refl)
header_reads Recall fs l t v = header_stands Recall 0 fs l t v refl refl refl refl refl (is_some_mapped recall (original_in fs) ∙ original_stands Recall 0 fs l t v refl refl)
header_reads Report fs l t v = header_stands Report 0 fs l t v refl refl refl refl refl (is_some_mapped report (original_in fs) ∙ original_stands Report 0 fs l t v refl refl)
header_reads Reply fs l t v = header_stands Reply 0 fs l t v refl refl refl refl refl (is_some_mapped reply (original_in fs) ∙ original_stands Reply 0 fs l t v refl refl)

transaction_reads : (k : Kind) (fs : List FieldValue) → Legal 0 fs → tags_fault k 1 fs ≡ None → value_fault fs ≡ None → is_some (transaction_in k fs) ≡ true
transaction_reads Request fs l t v =
    transaction_stands Request 1 fs l t v refl refl
    (some_given _ _ (amount_stands Request 1 fs l t v refl) (λ a. is_some_mapped (requested a) (member_code_in 22 fs) ∙ creditor_agent_stands Request 1 fs l t v refl))
transaction_reads Recall fs l t v = transaction_stands Recall 1 fs l t v refl refl (is_some_mapped recalled (amount_in fs) ∙ amount_stands Recall 1 fs l t v refl)
transaction_reads Report fs l t v = transaction_stands Report 1 fs l t v refl refl (answer_stands Report 1 fs l t v refl)
transaction_reads Reply fs l t v = transaction_stands Reply 1 fs l t v refl refl (answer_stands Reply 1 fs l t v refl)

-- every block behind the first is a transaction, as block 1 is
as_first : (k : Kind) (n : ℕ) (fs : List FieldValue) → 0 < n → tags_fault k n fs ≡ None → tags_fault k 1 fs ≡ None
as_first k n fs h e = sym (ap (λ b. tag_fault (shape k (cond b (role 0) (role 1))) fs) (ne_eqb n 0 (λ z. omega (arith, z)))) ∙ e

transactions_read : (k : Kind) (n : ℕ) (fss : List (List FieldValue)) → 0 < n → AllLegal fss → first_fault (tags_fault k) n fss ≡ None → first_fault values_fault n fss ≡ None → is_some (transactions_in k fss) ≡ true
transactions_read k n [] h l t v = refl
transactions_read k n (fs ∷ fss) h l t v =
    let a = located_none n (tags_fault k n fs) (first_fault (tags_fault k) (n + 1) fss) t in
    let b = located_none n (value_fault fs) (first_fault values_fault (n + 1) fss) v in
    some_given _ _ (transaction_reads k fs l.0 (as_first k n fs h a.0) b.0) (λ x.
    is_some_mapped (λ ts. x ∷ ts) (transactions_in k fss) ∙ transactions_read k (n + 1) fss (omega arith) l.1 a.1 b.1)

-- the kind as reading finds it
same_kind : (o : Option (List ℕ)) → kind_by o ≡ given (given o read_byte) kind_of
same_kind None = refl
same_kind (Some []) = refl
same_kind (Some (n ∷ [])) = refl
same_kind (Some (n ∷ m ∷ ns)) = refl

known_kind : (o : Option Kind) (fss : List (List FieldValue)) → first_tags_fault o fss ≡ None → (k : Kind) × (o ≡ Some k) × (first_fault (tags_fault k) 0 fss ≡ None)
known_kind None fss e = absurd (let z : ◌≡◌ {A = ℕ} 0 1 = cc in omega arith)
known_kind (Some k) fss e = (k, refl, e)

-- fields without a fault say all that a message says
content_reads : (fss : List (List FieldValue)) → AllLegal fss → judged_fields fss ≡ Ok fss → is_some (content_in fss) ≡ true
unfolding content_in
content_reads [] l e = absurd (let z : ◌≡◌ {A = ℕ} 0 1 = cc in omega arith)
content_reads (fs ∷ fss) l e =
    let a = unless_ok (first_tags_fault (kind_by (value_of 1 fs)) (fs ∷ fss)) misplaced_tag _ (fs ∷ fss) e in
    let b = unless_ok (first_fault values_fault 0 (fs ∷ fss)) unfit_value (Ok (fs ∷ fss)) (fs ∷ fss) a.1 in
    let q = known_kind (kind_by (value_of 1 fs)) (fs ∷ fss) a.0 in
    let k = q.0 in
    let t = located_none 0 (tags_fault k 0 fs) (first_fault (tags_fault k) 1 fss) q.2 in
    let v = located_none 0 (value_fault fs) (first_fault values_fault 1 fss) b.0 in
    let same : Some k ≡ header_kind fs = sym q.1 ∙ same_kind (value_of 1 fs) in
    ap is_some (given-some (header_kind fs) k _ same)
    ∙ some_given _ _ (header_reads k fs l.0 t.0 v.0) (λ h.
    is_some_mapped (content_of h) (transactions_in k fss) ∙ transactions_read k 1 fss (omega arith) l.1 t.1 v.1)

by_reading : (xs : List ℕ) (m : MessageReading) → read_message xs ≡ m → is_some (given (result_ok m) content_in) ≡ is_ok m
by_reading xs (Ok fss) e = let h = read_holds xs fss e in content_reads fss h.legal h.judged
by_reading xs (Err x) e = refl

-- bytes say something exactly where they read
pub total : (xs : List ℕ) → is_some (decoded xs) ≡ is_ok (read_message xs)
unfolding decoded
total xs = by_reading xs (read_message xs) refl
