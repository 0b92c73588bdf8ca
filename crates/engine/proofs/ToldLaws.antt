-- An export hands on what its call answered: v is the answer that came back, a the answer by the definition, n the numbers told.
--     refusal_told       the numbers of a refusal
--     by_*               what `Numbers::from` gives is the report of the answer, one for each kind of answer
--     sum_told, empty_told    the other two numbers of a listing
--     told               n for a report of v is n for the report of a
--     *-told             one for each call with buffers: its buffers at exit go by a as they go by v
use Prim.Native.Nat.{ℕ}
use mathlib.Core.Path.{◌≡◌, ◌∙◌, ap}
use mathlib.Core.List.{List}
use Rattle.rings.specs.Table.{Table}
use Rattle.rings.specs.Refusals.{Verdict, Counted, Report, rule_of, number_of, place_number, place_of, done, refused, verdict_report, counted_report}
use Rattle.rings.specs.Buffers.{verdict_scratch, counted_scratch}
use Rattle.rings.specs.WindowRingCall.{ring_marks}
use Rattle.rings.specs.CoreTimesCall.{account_column, row_column}
use Rattle.rings.specs.RecallCall.{Columns, recall_marks}
use Rattle.rings.specs.MinimalWindowsCall.{minimal_rows, minimal_starts, minimal_ends}
use Rattle.rings.specs.declared.Query.{Query}
use Rattle.rings.specs.declared.refusal.Refusal.{Refusal}
use Rattle.rings.specs.declared.refusal.Place.{Place}
use Rattle.text.specs.Table.{filled}
use Rattle.text.specs.Writer.{text_after}
use Rattle.text.specs.declared.table.ReadError.{ReadError}
use Rattle.text.specs.declared.writer.WriteError.{WriteError}
use Rattle.groups.specs.GroupCalls.{label_column, group_marks}
use Rattle.listing.specs.ListingCall.{Columns as RingColumns, listing_columns, listing_scratch, listing_report, listing_sum, listing_empty}
use Rattle.listing.specs.Program.{Outcome}
use Rattle.listing.specs.ProgramText.{list_output, printed_report}
use Rattle.listing.specs.declared.Listed.{Listed}
use Rattle.listing.specs.declared.Refused.{Refused}
use Rattle.std.specs.Prelude.{Option, Result, Ok, Err, MatchResult}
use Rattle.std.specs.Result.{result_unwrap_or}
use Rattle.engine.specs.Numbers.{refused_report, read_report, written_report, numbers}
use Rattle.engine.specs.declared.numbers.Numbers.{Numbers}

-- the equations of the numbers
pub record Told (n : Numbers) (a : Report) : Type 0 where
  pub number : n.number ≡ a.number
  pub place : n.place ≡ a.place
  pub count : n.count ≡ a.count

pub told : {A : Type 0} (report : A → Report) {v a : A} {n : Numbers} → v ≡ a → n ≡ numbers (report v) → Told n (report a)
told report {n = n} e h =
    let f = h ∙ ap (λ x. numbers (report x)) e in
    record { number = ap (λ x. x.number) f; place = ap (λ x. x.place) f; count = ap (λ x. x.count) f }

abbrev pub numbers_as : ℕ → ℕ → ℕ → Numbers
numbers_as n place count = record { number = n; place = place; count = count }

-- a refusal of rings, by its number and its place

pub refusal_told : (r : Refusal) {n p : ℕ} {at : Option Place}
    → n ≡ number_of r
    → at ≡ (rule_of r).place
    → p ≡ place_number at
    → numbers_as n p 0 ≡ numbers (refused r)
unfolding refused place_of
refusal_told r e a l = λ i. numbers_as (e i) ((l ∙ ap place_number a) i) 0

-- what a conversion gives, by the cases of the answer
abbrev By : {T E : Type 0} → (T → ℕ) → (E → Report) → Result T E → Numbers → Type 0
By count refusal v n = MatchResult v (λ x. n ≡ numbers (done (count x))) (λ e. n ≡ numbers (refusal e))

pub by_verdict : (v : Verdict) {n : Numbers} → By (λ _. 0) refused v n → n ≡ numbers (verdict_report v)
unfolding verdict_report
by_verdict (Ok _) h = h
by_verdict (Err r) h = h

pub by_counted : (v : Counted) {n : Numbers} → By (λ k. k) refused v n → n ≡ numbers (counted_report v)
unfolding counted_report
by_counted (Ok k) h = h
by_counted (Err r) h = h

pub by_listing : (v : Result Listed Refusal) {n : Numbers} → By (λ l. l.count) refused v n → n ≡ numbers (listing_report v)
unfolding listing_report
by_listing (Ok l) h = h
by_listing (Err r) h = h

-- the other two numbers of a listing, 0 on a refusal
abbrev pub listed_or_none : Result Listed Refusal → Listed
listed_or_none v = result_unwrap_or v (record { count = 0; sum = 0; empty = 0 })

pub sum_told : (v : Result Listed Refusal) {l : Listed} → l ≡ listed_or_none v → l.sum ≡ listing_sum v
unfolding listing_sum
sum_told (Ok x) h = ap (λ y. y.sum) h
sum_told (Err r) h = ap (λ y. y.sum) h

pub empty_told : (v : Result Listed Refusal) {l : Listed} → l ≡ listed_or_none v → l.empty ≡ listing_empty v
unfolding listing_empty
empty_told (Ok x) h = ap (λ y. y.empty) h
empty_told (Err r) h = ap (λ y. y.empty) h

pub by_list : (v : Result ℕ Refused) {n : Numbers} → By (λ k. k) refused_report v n → n ≡ numbers (printed_report v)
unfolding printed_report
by_list (Ok k) h = h
by_list (Err r) h = h

pub by_read : (v : Result ℕ ReadError) {n : Numbers} → By (λ k. k) (λ e. read_report (Err e)) v n → n ≡ numbers (read_report v)
unfolding done
by_read (Ok k) h = h
by_read (Err e) h = h

pub by_written : (v : Result ℕ WriteError) {n : Numbers} → By (λ k. k) (λ e. written_report (Err e)) v n → n ≡ numbers (written_report v)
unfolding done
by_written (Ok k) h = h
by_written (Err e) h = h

-- a call that counts and writes one column
counted_told : (after : Counted → List ℕ) (before : List ℕ) {v a : Counted} {n : Numbers} {column scratch : List ℕ}
    → v ≡ a → column ≡ after v → scratch ≡ counted_scratch v before → n ≡ numbers (counted_report v)
    → (n.number ≡ (counted_report a).number)
    × (n.place ≡ (counted_report a).place)
    × (n.count ≡ (counted_report a).count)
    × (column ≡ after a)
    × (scratch ≡ counted_scratch a before)
counted_told after before answer column scratch h =
    let n = told counted_report answer h in
    (n.number, n.place, n.count, column ∙ ap after answer, scratch ∙ ap (λ v. counted_scratch v before) answer)

pub ring_told : (t : Table) (q : Query) (s e : ℕ) (old before : List ℕ) {v a : Counted} {n : Numbers} {marks scratch : List ℕ}
    → v ≡ a → marks ≡ ring_marks v t q s e old → scratch ≡ counted_scratch v before → n ≡ numbers (counted_report v)
    → (n.number ≡ (counted_report a).number)
    × (n.place ≡ (counted_report a).place)
    × (n.count ≡ (counted_report a).count)
    × (marks ≡ ring_marks a t q s e old)
    × (scratch ≡ counted_scratch a before)
ring_told t q s e old before = counted_told (λ v. ring_marks v t q s e old) before

pub label_told : (t : Table) (q : Query) (s e : ℕ) (old before : List ℕ) {v a : Counted} {n : Numbers} {labels scratch : List ℕ}
    → v ≡ a → labels ≡ label_column v t q s e old → scratch ≡ counted_scratch v before → n ≡ numbers (counted_report v)
    → (n.number ≡ (counted_report a).number)
    × (n.place ≡ (counted_report a).place)
    × (n.count ≡ (counted_report a).count)
    × (labels ≡ label_column a t q s e old)
    × (scratch ≡ counted_scratch a before)
label_told t q s e old before = counted_told (λ v. label_column v t q s e old) before

pub group_told : (t : Table) (q : Query) (s e u : ℕ) (old before : List ℕ) {v a : Counted} {n : Numbers} {marks scratch : List ℕ}
    → v ≡ a → marks ≡ group_marks v t q s e u old → scratch ≡ counted_scratch v before → n ≡ numbers (counted_report v)
    → (n.number ≡ (counted_report a).number)
    × (n.place ≡ (counted_report a).place)
    × (n.count ≡ (counted_report a).count)
    × (marks ≡ group_marks a t q s e u old)
    × (scratch ≡ counted_scratch a before)
group_told t q s e u old before = counted_told (λ v. group_marks v t q s e u old) before

pub times_told : (t : Table) (q : Query) (te s : ℕ) (old old' before : List ℕ) {v a : Verdict} {n : Numbers} {accounts rows scratch : List ℕ}
    → v ≡ a → accounts ≡ account_column v t q te s old → rows ≡ row_column v t q te s old' → scratch ≡ verdict_scratch v before → n ≡ numbers (verdict_report v)
    → (n.number ≡ (verdict_report a).number)
    × (n.place ≡ (verdict_report a).place)
    × (accounts ≡ account_column a t q te s old)
    × (rows ≡ row_column a t q te s old')
    × (scratch ≡ verdict_scratch a before)
times_told t q te s old old' before answer accounts rows scratch h =
    let n = told verdict_report answer h in (
      n.number,
      n.place,
      accounts ∙ ap (λ v. account_column v t q te s old) answer,
      rows ∙ ap (λ v. row_column v t q te s old') answer,
      scratch ∙ ap (λ v. verdict_scratch v before) answer,
    )

pub recall_told : (t : Table) (l : Columns) (s e : ℕ) (old : List ℕ) {v a : Verdict} {n : Numbers} {marks : List ℕ}
    → v ≡ a → marks ≡ recall_marks v t l s e old → n ≡ numbers (verdict_report v)
    → (n.number ≡ (verdict_report a).number) × (n.place ≡ (verdict_report a).place) × (marks ≡ recall_marks a t l s e old)
recall_told t l s e old answer marks h =
    let n = told verdict_report answer h in
    (n.number, n.place, marks ∙ ap (λ v. recall_marks v t l s e old) answer)

pub read_told : (new new' new'' old old' old'' : List ℕ) {v a : Result ℕ ReadError} {n : Numbers} {x x' x'' : List ℕ}
    → v ≡ a → x ≡ filled v new old → x' ≡ filled v new' old' → x'' ≡ filled v new'' old'' → n ≡ numbers (read_report v)
    → (n.number ≡ (read_report a).number)
    × (n.place ≡ (read_report a).place)
    × (n.count ≡ (read_report a).count)
    × (x ≡ filled a new old)
    × (x' ≡ filled a new' old')
    × (x'' ≡ filled a new'' old'')
read_told new new' new'' old old' old'' answer x x' x'' h =
    let n = told read_report answer h in
    (n.number, n.place, n.count, x ∙ ap (λ v. filled v new old) answer, x' ∙ ap (λ v. filled v new' old') answer, x'' ∙ ap (λ v. filled v new'' old'') answer)

pub write_told : (text old : List ℕ) {v a : Result ℕ WriteError} {n : Numbers} {after : List ℕ}
    → v ≡ a → after ≡ text_after v text old → n ≡ numbers (written_report v)
    → (n.number ≡ (written_report a).number)
    × (n.place ≡ (written_report a).place)
    × (n.count ≡ (written_report a).count)
    × (after ≡ text_after a text old)
write_told text old answer after h =
    let n = told written_report answer h in
    (n.number, n.place, n.count, after ∙ ap (λ v. text_after v text old) answer)

pub minimal_told : (t : Table) (q : Query) (ts te : ℕ) (old old' old'' before : List ℕ) {v a : Counted} {n : Numbers} {rows starts ends scratch : List ℕ}
    → v ≡ a
    → rows ≡ minimal_rows v t q ts te old
    → starts ≡ minimal_starts v t q ts te old'
    → ends ≡ minimal_ends v t q ts te old''
    → scratch ≡ counted_scratch v before
    → n ≡ numbers (counted_report v)
    → (n.number ≡ (counted_report a).number)
    × (n.place ≡ (counted_report a).place)
    × (n.count ≡ (counted_report a).count)
    × (rows ≡ minimal_rows a t q ts te old)
    × (starts ≡ minimal_starts a t q ts te old')
    × (ends ≡ minimal_ends a t q ts te old'')
    × (scratch ≡ counted_scratch a before)
minimal_told t q ts te old old' old'' before answer rows starts ends scratch h =
    let n = told counted_report answer h in (
      n.number,
      n.place,
      n.count,
      rows ∙ ap (λ v. minimal_rows v t q ts te old) answer,
      starts ∙ ap (λ v. minimal_starts v t q ts te old') answer,
      ends ∙ ap (λ v. minimal_ends v t q ts te old'') answer,
      scratch ∙ ap (λ v. counted_scratch v before) answer,
    )

pub listing_told : (t : Table) (q : Query) (ts te : ℕ) (old : RingColumns (List ℕ)) (before : List ℕ) {v a : Result Listed Refusal}
    {n : Numbers} {sum empty : ℕ} {columns : RingColumns (List ℕ)} {scratch : List ℕ}
    → v ≡ a
    → columns ≡ listing_columns v t q ts te old
    → scratch ≡ listing_scratch v before
    → n ≡ numbers (listing_report v)
    → sum ≡ listing_sum v
    → empty ≡ listing_empty v
    → (n.number ≡ (listing_report a).number) × (n.place ≡ (listing_report a).place) × (n.count ≡ (listing_report a).count)
    × (sum ≡ listing_sum a) × (empty ≡ listing_empty a) × (columns ≡ listing_columns a t q ts te old) × (scratch ≡ listing_scratch a before)
listing_told t q ts te old before answer columns scratch h sum empty =
    let n = told listing_report answer h in (
      n.number,
      n.place,
      n.count,
      sum ∙ ap listing_sum answer,
      empty ∙ ap listing_empty answer,
      columns ∙ ap (λ v. listing_columns v t q ts te old) answer,
      scratch ∙ ap (λ v. listing_scratch v before) answer,
    )

pub list_told : (o : Outcome) (old : List ℕ) {v a : Result ℕ Refused} {n : Numbers} {output : List ℕ}
    → v ≡ a → output ≡ list_output v o old → n ≡ numbers (printed_report v)
    → (n.number ≡ (printed_report a).number) × (n.place ≡ (printed_report a).place) × (n.count ≡ (printed_report a).count) × (output ≡ list_output a o old)
list_told o old answer output h =
    let n = told printed_report answer h in
    (n.number, n.place, n.count, output ∙ ap (λ v. list_output v o old) answer)
