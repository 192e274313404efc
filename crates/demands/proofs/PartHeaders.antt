-- DEMAND 2: what is not read of the header of a part. Assumes nothing.
use Rattle.std.specs.Prelude.{Result, Ok, Err}
use mathlib.Core.Path.{◌≡◌, refl, ap, sym, ◌∙◌}
use mathlib.Core.Bool.{false}
use mathlib.Core.List.{List, [], ◌++◌, append_assoc}
use Prim.Native.Nat.{ℕ, ◌+◌, ◌%◌, ◌^◌, ◌≤◌}
use native.Mathlib.Omega.{arith}
use lib.Dec.{eqb}
use lib.ListN.{length, get_or, drop, length-append, length-drop, get_or-append}
use lib.Seq.{drop-append_seam, take-append_seam}
use Rattle.theory.specs.Logic.{when◌then◌else◌, ◌or◌}
use Rattle.theory.specs.Bytes.{bytes_at}
use Rattle.theory.proofs.Tests.{by_cases}
use Rattle.theory.proofs.Items.{items-same}
use Rattle.wire.specs.Le.{le, number}
use Rattle.wire.proofs.Le.{number-byte, number-alike, number_append}
use Rattle.protocol.specs.declared.Refusal.{Refusal}
use Rattle.protocol.specs.declared.Body.{Body}
use Rattle.protocol.specs.declared.Body.TheVariants as body
use Rattle.inventory.specs.Inventory.{row_at, row_count, low_bytes, selector_of}
use Rattle.parts.specs.declared.ListForm.{ListForm}
use Rattle.parts.specs.declared.ListForm.TheVariants.{Parts, Headers}
use Rattle.parts.specs.Step as step
use Rattle.parts.specs.List.{value_size, header_at, step_at, Part, part, part_with, parts_of}
use Rattle.parts.proofs.Walk.{step-found, parts-part}
use Rattle.rules.specs.Rules.{known, known_or_skipped, length_right, size_right, features_same, asks_known, cause_in, asked_in}
use Rattle.capture.specs.Capture.{Asked, asks, part_item, parts_written}
use Rattle.member.specs.declared.Member.{Member}
use Rattle.member.specs.Member.{features_in}
use Rattle.reads.specs.Reads.{selected_of}
use Rattle.changes.specs.Changes.{set_parts_of}
use Rattle.card.specs.Layout.{member_in}
use Rattle.frame.specs.Frame.{group_at, member_at, opcode_of, target_of, data_of}
use Rattle.frame.specs.Fields.{object_valid, get_in, set_in, fields_of}
use Rattle.frame.specs.Ask.{framed_of, ask_of}
use Rattle.reply.specs.Result.{result_of, result_given}
use Rattle.admin.specs.Command.{ask_in, effect, changing, perform, respond}
use Rattle.demands.specs.PartHeaders.{named_bytes, SamePart, SameGiven, same_given, next_given, SameAsked, same_asked, next_asked, HeadersNotRead}
use Rattle.demands.proofs.SameAsked.{Same, respond-alike}
use Rattle.demands.proofs.Unread.{data-at}
use Rattle.demands.proofs.PartLists.{parts-behind, Alike, same, next, whole-alike, every-alike, among-alike, repeated-alike, applied-alike}

-- ---- a part at the front of a list ----

module _ (h rest : List ℕ) (long : length h ≡ 16) where
  front-number : (at n : ℕ) → at + n ≤ 16 → number at n (h ++ rest) ≡ number at n h
  front-number at n b = number-alike 16 (h ++ rest) h (λ i j. get_or-append h rest 0 i (omega arith)) n at b

  front-size : (form : ListForm) → value_size form (h ++ rest) 0 ≡ value_size form h 0
  front-size Parts = front-number 12 4 (omega arith)
  front-size Headers = refl

  front-header : (form : ListForm) → value_size form h 0 ≤ length rest
      → step_at form (h ++ rest) 0
      ≡ step.Part (number 0 2 h) (get_or h 2 0) (selector_of (number 0 2 h) (number 4 8 h)) 16 (value_size form h 0)
  unfolding header_at
  front-header form b =
      let n = length-append h rest in
      let e = front-size form in
      step-found form (h ++ rest) 0 (omega arith) (omega arith)
      ∙ rw (front-number 0 2 (omega arith), get_or-append h rest 0 2 (omega arith), front-number 4 8 (omega arith), e)

abbrev header_part : List ℕ → List ℕ → Part
header_part h x = part_with (number 0 2 h) (get_or h 2 0) (selector_of (number 0 2 h) (number 4 8 h)) x

front-part : (form : ListForm) (h x l : List ℕ) → length h ≡ 16 → length x ≡ value_size form h 0
    → parts_of form (h ++ (x ++ l)) ≡ part (header_part h x) (parts_of form l)
front-part form h x l long size =
    let n = length-append x l in
    let value : bytes_at 16 (length x) (h ++ (x ++ l)) ≡ x = rw (← long) (rw (drop-append_seam h (x ++ l)) (take-append_seam x l)) in
    let place : 16 + length x ≡ length (h ++ x) = sym (length-append h x ∙ rw long) in
    parts-part form (h ++ (x ++ l)) 0 (front-header h (x ++ l) long form (omega arith))
    ∙ rw (← size, value, place, ← append_assoc h x l, parts-behind (h ++ x) l form)

-- ---- headers of the same part ----

same_number : (n : ℕ) (h k : List ℕ) → bytes_at 4 n k ≡ bytes_at 4 n h → number 4 n k ≡ number 4 n h
unfolding number
same_number n h k e = ap le e

low-four : (l : List ℕ) → low_bytes 4 (number 4 8 l) ≡ number 4 4 l % 256 ^ 4
low-four l = rw (number_append 4 4 4 l) (omega arith)

low-two : (l : List ℕ) → low_bytes 2 (number 4 8 l) ≡ number 4 2 l % 256 ^ 2
low-two l = rw (number_append 4 2 6 l) (omega arith)

module _ (h k : List ℕ) (p : SamePart h k) where
  abbrev t : ℕ
  t = number 0 2 h

  selector-same : selector_of t (number 4 8 k) ≡ selector_of t (number 4 8 h)
  unfolding selector_of named_bytes when◌then◌else◌
  selector-same =
      let e = p.selector in
      by_cases (eqb t 0x102)
      (λ a. let f = same_number 4 h k (rw a at e) in rw (a, low-four k, low-four h, f)) λ a.
      by_cases (eqb t 0x104 or eqb t 0x105)
      (λ b. let f = same_number 2 h k (rw (a, b) at e) in rw (a, b, low-two k, low-two h, f)) (λ b. rw (a, b))

  header-same : (x : List ℕ) → header_part k x ≡ part_with t (get_or k 2 0) (selector_of t (number 4 8 h)) x
  header-same x = rw (p.part_type, selector-same)

-- ---- lists of them ----

abbrev FreeGiven : ℕ → ℕ → ℕ → ℕ → ℕ → Type 0
FreeGiven queues t s f g = known queues t s ≡ false → g ≡ f

abbrev FreeAsked : ℕ → ℕ → ℕ → ℕ → Type 0
FreeAsked t s f g = Unit {0}

given-long : {queues : ℕ} {l m : List ℕ} → SameGiven queues l m → length m ≡ length l
given-long same_given = refl
given-long (next_given {h} {k} {l} {m} x p n z f a) =
    rw (length-append k (x ++ m), length-append x m, length-append h (x ++ l), length-append x l, p.long, p.also_long, given-long a)

given-alike : {queues : ℕ} {l m : List ℕ} → SameGiven queues l m → Alike (FreeGiven queues) (parts_of Parts l) (parts_of Parts m)
given-alike same_given = same
given-alike (next_given {h} {k} {l} {m} x p n z f a) =
    rw (front-part Parts h x l p.long z, front-part Parts k x m p.also_long (z ∙ sym n), header-same h k p x) (next f (given-alike a))

asked-long : {l m : List ℕ} → SameAsked l m → length m ≡ length l
asked-long same_asked = refl
asked-long (next_asked {h} {k} {l} {m} p a) = rw (length-append k m, length-append h l, p.long, p.also_long, asked-long a)

asked-alike : {l m : List ℕ} → SameAsked l m → Alike FreeAsked (parts_of Headers l) (parts_of Headers m)
asked-alike same_asked = same
asked-alike (next_asked {h} {k} {l} {m} p a) =
    rw (front-part Headers h [] l p.long refl, front-part Headers k [] m p.also_long refl, header-same h k p []) (next tt (asked-alike a))

-- ---- what is made of them ----

module _ (queues : ℕ) (l m : List ℕ) (a : SameGiven queues l m) where
  skipped-same : (t s f g : ℕ) (v : List ℕ) → FreeGiven queues t s f g → known_or_skipped queues (part_with t g s v) ≡ known_or_skipped queues (part_with t f s v)
  unfolding known_or_skipped ◌or◌
  skipped-same t s f g v e = by_cases (known queues t s) (λ y. rw y) (λ y. rw (y, e y))

  cause-same : (features : List ℕ) → cause_in queues features (parts_of Parts m) ≡ cause_in queues features (parts_of Parts l)
  unfolding cause_in length_right size_right features_same
  cause-same features =
      let w = given-alike a in
      rw (
        whole-alike (FreeGiven queues) w,
        every-alike (FreeGiven queues) (known_or_skipped queues) skipped-same w,
        every-alike (FreeGiven queues) (length_right queues) (λ t s f g v e. refl) w,
        every-alike (FreeGiven queues) (size_right queues) (λ t s f g v e. refl) w,
        every-alike (FreeGiven queues) (features_same features) (λ t s f g v e. refl) w,
        repeated-alike (FreeGiven queues) queues w,
      )

  set_same : (id : ℕ) (y : Member) → y.queues ≡ queues → set_parts_of id m y ≡ set_parts_of id l y
  unfolding set_parts_of
  set_same id y q = rw (q, cause-same (features_in y), applied-alike (FreeGiven queues) queues (given-alike a) y.values)

module _ (l m : List ℕ) (a : SameAsked l m) where
  selected-same : (queues : ℕ) → selected_of queues m ≡ selected_of queues l
  unfolding selected_of asked_in asks_known
  selected-same queues =
      let w = asked-alike a in
      rw (whole-alike FreeAsked w, every-alike FreeAsked (asks_known queues) (λ t s f g v e. refl) w, repeated-alike FreeAsked queues w)

  item-same : (queues : ℕ) (values : List ℕ) (i : ℕ) → part_item Asked queues m values i ≡ part_item Asked queues l values i
  unfolding part_item asks
  item-same queues values i = rw (among-alike FreeAsked (row_at i).part_type (row_at i).selector (asked-alike a))

  result-same : (queues : ℕ) (values : List ℕ) (x : Result Body Refusal) → result_given queues m values x ≡ result_given queues l values x
  unfolding result_of parts_written
  result-same queues values (Err a) = refl
  result-same queues values (Ok body.Nothing) = refl
  result-same queues values (Ok (body.Kind k)) = refl
  result-same queues values (Ok (body.Number n)) = refl
  result-same queues values (Ok body.Headers) = refl
  result-same queues values (Ok body.Selected) = items-same _ _ row_count row_count 0 refl (λ i h. item-same queues values i)
  result-same queues values (Ok body.All) = refl

-- ---- two requests with the same bytes before their lists ----

module _ (c front list other : List ℕ) (lens : length other ≡ length list) where
  abbrev r : List ℕ
  r = front ++ list

  abbrev s : List ℕ
  s = front ++ other

  own-number : (at n : ℕ) → at + n ≤ length front → number at n r ≡ number at n front
  own-number at n b = number-alike (length front) r front (λ i h. get_or-append front list 0 i h) n at b

  front_same : (at n : ℕ) → at + n ≤ length front → number at n s ≡ number at n r
  front_same at n b =
      number-alike (length front) s r (λ i h. get_or-append front other 0 i h ∙ sym (get_or-append front list 0 i h)) n at b

  data-same : (at n : ℕ) → 24 + at + n ≤ length front → number at n (data_of s) ≡ number at n (data_of r)
  data-same at n b = data-at n at s ∙ front_same (24 + at) n b ∙ sym (data-at n at r)

  length-same : length s ≡ length r
  length-same = rw (length-append front other, length-append front list, lens)

  ask-same : 24 ≤ length front → ((ids m : ℕ) → fields_of ids m (opcode_of r) (data_of s) ≡ fields_of ids m (opcode_of r) (data_of r)) → ask_in c s ≡ ask_in c r
  unfolding ask_in ask_of framed_of
  ask-same b f =
      rw (length-same, front_same 0 2 (omega arith), front_same group_at 2 (omega arith), front_same member_at 8 (omega arith), f _ _)

  set-fields : opcode_of r ≡ 0x10 → 32 ≤ length front → (ids m : ℕ) → fields_of ids m (opcode_of r) (data_of s) ≡ fields_of ids m (opcode_of r) (data_of r)
  unfolding fields_of set_in object_valid when◌then◌else◌
  set-fields o b ids m = rw (o, data-same 0 2 (omega arith), data-same 4 4 (omega arith))

  type-same : 40 ≤ length front → get_or (data_of s) 8 0 ≡ get_or (data_of r) 8 0
  type-same b = sym (number-byte 8 (data_of s)) ∙ data-same 8 1 (omega arith) ∙ number-byte 8 (data_of r)

  data-long : length (data_of s) ≡ length (data_of r)
  data-long = rw (length-drop 24 s, length-drop 24 r, length-same)

  get-fields : opcode_of r ≡ 0x0f → 40 ≤ length front → (ids m : ℕ) → fields_of ids m (opcode_of r) (data_of s) ≡ fields_of ids m (opcode_of r) (data_of r)
  unfolding fields_of get_in object_valid when◌then◌else◌
  get-fields o b ids m = rw (o, data-same 0 2 (omega arith), data-same 4 4 (omega arith), type-same b, data-long)

given : (c front list other : List ℕ) (room : ℕ) → length front ≡ 32 → opcode_of front ≡ 0x10
    → SameGiven (member_in c (target_of front)).queues list other → respond c (front ++ other) room ≡ respond c (front ++ list) room
unfolding Same perform
given c front list other room n o a =
    let e = given-long a in
    let op : opcode_of (front ++ list) ≡ 0x10 = own-number c front list other e 0 2 (omega arith) ∙ o in
    let m : target_of (front ++ list) ≡ target_of front = own-number c front list other e member_at 8 (omega arith) in
    let d : drop 32 (front ++ list) ≡ list = rw (← n) (drop-append_seam front list) in
    let d' : drop 32 (front ++ other) ≡ other = rw (← n) (drop-append_seam front other) in
    respond-alike c (front ++ list) (front ++ other) room (λ z id. absurd (omega arith))
    (λ z id. rw (d, d', m) (ap (changing c (target_of front)) (set_same _ list other a id (member_in c (target_of front)) refl)))
    (ask-same c front list other e (omega arith) (set-fields c front list other e op (omega arith)))

asked : (c front list other : List ℕ) (room : ℕ) → length front ≡ 40 → opcode_of front ≡ 0x0f → SameAsked list other
    → respond c (front ++ other) room ≡ respond c (front ++ list) room
unfolding Same perform
asked c front list other room n o a =
    let e = asked-long a in
    let op : opcode_of (front ++ list) ≡ 0x0f = own-number c front list other e 0 2 (omega arith) ∙ o in
    let d : drop 40 (front ++ list) ≡ list = rw (← n) (drop-append_seam front list) in
    let d' : drop 40 (front ++ other) ≡ other = rw (← n) (drop-append_seam front other) in
    respond-alike c (front ++ list) (front ++ other) room
    (λ z id. rw (d, d', selected-same list other a) (ap (effect _ c) (result-same list other a _ _ _)))
    (λ z id. absurd (omega arith))
    (ask-same c front list other e (omega arith) (get-fields c front list other e op (omega arith)))

pub headers-not-read : HeadersNotRead
headers-not-read = record { given = given; asked = asked }
