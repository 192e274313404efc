-- What a built request asks has a result of the form that the host reads by. Assumes nothing.
use Rattle.std.specs.Prelude.{Result, Ok, Err, is_ok}
use mathlib.Core.Path.{◌≡◌, refl}
use mathlib.Core.Bool.{true}
use mathlib.Core.List.{List, [], ◌++◌}
use Prim.Native.Nat.{ℕ, zero, suc, ◌+◌, ◌*◌, ◌%◌, ◌^◌, ◌<◌}
use native.Mathlib.Omega.{arith}
use borrow.Author.Tests.{eq-eqb, leb-true}
use lib.Dec.{leb, eqb}
use lib.ListN.{length, get_or, length-append}
use Rattle.theory.specs.Logic.{when◌then◌else◌, unless◌answer◌then◌}
use Rattle.theory.proofs.Tests.{if-cases, unless-cases, both, inside, within-high}
use Rattle.wire.specs.Le.{bytes, number}
use Rattle.wire.proofs.Le.{le_bytes}
use Rattle.protocol.specs.declared.Refusal.{Refusal}
use Rattle.protocol.specs.declared.Refusal.TheVariants.{NotLive, WrongKind, BadList}
use Rattle.protocol.specs.declared.Body.{Body}
use Rattle.protocol.specs.declared.Body.TheVariants as body
use Rattle.protocol.specs.declared.Metadata.{Metadata}
use Rattle.protocol.specs.declared.Metadata.TheVariants.{Size, Count, HeaderList}
use Rattle.protocol.specs.declared.ObjectKind.{ObjectKind}
use Rattle.protocol.specs.declared.ReadOp.{ReadOp}
use Rattle.protocol.specs.declared.ReadOp.TheVariants.{QueryObject, GetMetadata, GetSelected, GetAll}
use Rattle.protocol.specs.Answers.{is_get, outcome_of}
use Rattle.inventory.specs.Inventory.{values_size, part_count, parts_size}
use Rattle.inventory.specs.Header.{header_size}
use Rattle.capture.specs.Capture.{All, Asked, headers_of}
use Rattle.capture.proofs.Sizes.{headers-length}
use Rattle.restore.proofs.WholeParts.{written-whole}
use Rattle.std.specs.Prelude.{Option, Some, None}
use Rattle.objects.specs.Objects.{on_found}
use Rattle.member.specs.declared.Member.{Member}
use Rattle.member.specs.Objects.{lookup_of}
use Rattle.reads.specs.Reads.{query_of, through_get, selected_of, read_of}
use Rattle.card.specs.Layout.{is_member, member_in}
use Rattle.card.proofs.SoundLaws.{Sound, sound-member-in}
use Rattle.frame.specs.declared.Ask.{Ask}
use Rattle.frame.specs.declared.Ask.TheVariants.{QueryList, UseList, Read, Change}
use Rattle.frame.specs.Frame.{type_at}
use Rattle.frame.specs.Fields.{metadata_is, create_in, modify_in, query_in, destroy_in, metadata_in, get_in, set_in, mode_in, use_in, fields_of}
use Rattle.frame.specs.Ask.{framed_of, ask_of}
use Rattle.reply.specs.Result.{number_bytes, result_of, result_given}
use Rattle.reply.proofs.Result.{number-long}
use Rattle.admin.specs.Command.{ask_in, perform}
use Rattle.host.specs.declared.Command.{Command}
use Rattle.host.specs.declared.Command.TheVariants as host
use Rattle.host.specs.declared.ResultForm.{ResultForm}
use Rattle.host.specs.declared.ResultForm.TheVariants.{Exactly, Counted, WholeParts}
use Rattle.host.specs.Request.{sent_of, request_of}
use Rattle.host.specs.Reply.{form_of, count_fits, result_fits}
use Rattle.host.proofs.Request.{opcode-small, opcode-request, data-request}
use Rattle.admin.proofs.Respond.{FactsIn}
use Rattle.host.proofs.Asked.{data_for, laid, request-is}

-- ---- what is asked fixes the form of the result ----

abbrev metadata_form : Metadata → ResultForm
metadata_form Size = Exactly 8
metadata_form Count = Exactly 8
metadata_form HeaderList = Counted

abbrev read_form : ReadOp → ResultForm
read_form (QueryObject id) = Exactly 8
read_form (GetMetadata id what) = metadata_form what
read_form (GetSelected id) = WholeParts
read_form (GetAll id) = WholeParts

-- what is asked has a result of this form, or is refused
abbrev pub Asks : ResultForm → Result Ask Refusal → Type 0
Asks form (Err a) = Unit {0}
Asks form (Ok QueryList) = form ≡ Exactly 8
Asks form (Ok (UseList mask)) = form ≡ Exactly 0
Asks form (Ok (Read m op)) = form ≡ read_form op
Asks form (Ok (Change m op)) = form ≡ Exactly 0

-- a type that step 7 takes: 2 is the list
metadata-form : (t : ℕ) → leb t 2 ≡ true → (when eqb t 2 then Counted else Exactly 8) ≡ metadata_form (metadata_is t)
unfolding when◌then◌else◌
metadata-form zero h = refl
metadata-form (suc zero) h = refl
metadata-form (suc (suc zero)) h = refl
metadata-form (suc (suc (suc t))) h = absurd (omega (arith, leb-true (suc (suc (suc t))) 2 h))

metadata-asks : (ids m t : ℕ) (d : List ℕ) → get_or d type_at 0 ≡ t → Asks (form_of 0x0e t) (metadata_in ids m d)
unfolding metadata_in form_of when◌then◌else◌
metadata-asks ids m t d e = rw (← e) (unless-cases (Asks (form_of 0x0e (get_or d type_at 0))) _ _ _ (λ f. tt) (λ f. metadata-form (get_or d type_at 0) (both _ _ f).1))

get-asks : (ids m : ℕ) (d : List ℕ) → Asks WholeParts (get_in ids m d)
unfolding get_in
get-asks ids m d =
    unless-cases (Asks WholeParts) _ _ _ (λ e. tt) (λ e.
    if-cases (Asks WholeParts) _ _ _ (λ e. refl) (λ e.
    unless-cases (Asks WholeParts) _ _ _ (λ e. tt) (λ e. refl)))

-- what is the type of a metadata command
abbrev pub TypeOf : Command → ℕ → Type 0
TypeOf x what = (m id type : ℕ) → x ≡ host.Metadata m id type → type ≡ what

fields-ask : (ids m : ℕ) (x : Command) (list : List ℕ) (what : ℕ) → what < 256 → TypeOf x what
    → Asks (form_of (sent_of x).opcode what) (fields_of ids m (sent_of x).opcode (data_for x list))
unfolding fields_of create_in modify_in query_in destroy_in set_in mode_in use_in when◌then◌else◌ form_of laid
fields-ask ids m host.ListQuery list what w t = refl
fields-ask ids m (host.ListUse mask) list what w t = unless-cases (Asks (Exactly 0)) _ _ _ (λ e. tt) (λ e. refl)
fields-ask ids m (host.Create k id kind) list what w t = unless-cases (Asks (Exactly 0)) _ _ _ (λ e. tt) (λ e. refl)
fields-ask ids m (host.Modify k id kind) list what w t = unless-cases (Asks (Exactly 0)) _ _ _ (λ e. tt) (λ e. refl)
fields-ask ids m (host.Query k id) list what w t = unless-cases (Asks (Exactly 8)) _ _ _ (λ e. tt) (λ e. refl)
fields-ask ids m (host.Destroy k id) list what w t = unless-cases (Asks (Exactly 0)) _ _ _ (λ e. tt) (λ e. refl)
fields-ask ids m (host.Metadata k id type) list what w t =
    let e : type ≡ what = t k id type refl in
    let b : type % 256 ≡ what = omega arith in
    metadata-asks ids m what (data_for (host.Metadata k id type) list) b
fields-ask ids m (host.Get k id which) list what w t = get-asks ids m _
fields-ask ids m (host.Set k id) list what w t = unless-cases (Asks (Exactly 0)) _ _ _ (λ e. tt) (λ e. refl)
fields-ask ids m (host.SetMode k mode) list what w t = unless-cases (Asks (Exactly 0)) _ _ _ (λ e. tt) (λ e. refl)

-- steps 2 to 7
pub request-asks : (c : List ℕ) (x : Command) (list : List ℕ) (what : ℕ) → what < 256 → TypeOf x what
    → Asks (form_of (sent_of x).opcode what) (ask_in c (request_of x list))
unfolding ask_in ask_of framed_of
request-asks c x list what w t =
    let P = Asks (form_of (sent_of x).opcode what) in
    unless-cases P _ _ _ (λ e. tt) (λ e.
    unless-cases P _ _ _ (λ e. tt) (λ e.
    unless-cases P _ _ _ (λ e. tt) (λ e.
    unless-cases P _ _ _ (λ e. tt) (λ e.
    unless-cases P _ _ _ (λ e. tt) (λ e.
    rw (request-is x list, opcode-request (sent_of x).opcode 1 (sent_of x).member (data_for x list) (opcode-small x), data-request)
    (fields-ask _ _ x list what w t))))))

-- ---- the result has the form of what is asked ----

module _ (list : List ℕ) (m : Member) (few : m.queues < 5) (long : length m.values ≡ values_size) where
  -- a success has a result of this form
  record Fits (form : ResultForm) (x : Result Body Refusal) : Type 0 where
    fits : is_ok (outcome_of x) ≡ true → result_fits form (result_given m.queues list m.values x) ≡ true

  refused-fits : (form : ResultForm) (a : Refusal) → Fits form (Err a)
  refused-fits form a = record { fits = λ d. cc }

  success-fits : (form : ResultForm) (b : Body) → result_fits form (result_of m.queues list m.values b) ≡ true → Fits form (Ok b)
  success-fits form b e = record { fits = λ d. e }

  on-found : (form : ResultForm) (x : Option ObjectKind) (f : ObjectKind → Result Body Refusal) → ((k : ObjectKind) → Fits form (f k))
      → Fits form (on_found x f (Err NotLive))
  on-found form (Some k) f h = h k
  on-found form None f h = refused-fits form NotLive

  through-get : (form : ResultForm) (id : ℕ) (x : Result Body Refusal) → Fits form x → Fits form (through_get id m x)
  unfolding through_get
  through-get form id x h =
      on-found form (lookup_of m id) (λ k. unless is_get k answer Err WrongKind then x)
      (λ k. unless-cases (Fits form) _ _ _ (λ e. refused-fits form WrongKind) (λ e. h))

  -- the count of a metadata list is that of its headers
  count-read : (n : ℕ) (x : List ℕ) → n < 256 ^ 4 → number 0 4 (number_bytes n ++ x) ≡ n
  unfolding number_bytes bytes number
  count-read n x h = le_bytes 4 n h

  list-fits : result_fits Counted (number_bytes (part_count m.queues) ++ headers_of m.queues) ≡ true
  unfolding result_fits count_fits
  list-fits =
      rw (count-read (part_count m.queues) (headers_of m.queues) (omega arith), length-append, number-long, headers-length m.queues few)
      (eq-eqb (8 + header_size * part_count m.queues) (8 + header_size * part_count m.queues) refl)

  reading-fits : (op : ReadOp) → Fits (read_form op) (read_of list op m)
  unfolding query_of selected_of result_of result_fits
  reading-fits (QueryObject id) =
      on-found (Exactly 8) (lookup_of m id) (λ k. Ok (body.Kind k)) (λ k. success-fits (Exactly 8) (body.Kind k) refl)
  reading-fits (GetMetadata id Size) =
      through-get (Exactly 8) id _ (success-fits (Exactly 8) (body.Number (parts_size m.queues)) (rw number-long))
  reading-fits (GetMetadata id Count) =
      through-get (Exactly 8) id _ (success-fits (Exactly 8) (body.Number (part_count m.queues)) (rw number-long))
  reading-fits (GetMetadata id HeaderList) = through-get Counted id _ (success-fits Counted body.Headers list-fits)
  reading-fits (GetSelected id) =
      through-get WholeParts id _
      (unless-cases (Fits WholeParts) _ _ _ (λ e. refused-fits WholeParts BadList)
      (λ e. success-fits WholeParts body.Selected (written-whole Asked m.queues list m.values long)))
  reading-fits (GetAll id) = through-get WholeParts id _ (success-fits WholeParts body.All (written-whole All m.queues [] m.values long))

pub effect-fits : (c r : List ℕ) → Sound c → (form : ResultForm) (a : Result Ask Refusal) → FactsIn c r a
    → Asks form a → is_ok (perform c r a).outcome ≡ true → result_fits form (perform c r a).result ≡ true
unfolding perform result_fits bytes
effect-fits c r x form (Err a) f h d = cc
effect-fits c r x form (Ok QueryList) f h d = rw h
effect-fits c r x form (Ok (UseList mask)) f h d = rw h
effect-fits c r x form (Ok (Read m op)) f h d =
    let here : is_member c m ≡ true = inside _ _ _ f.0.low f.0.high in
    let y = sound-member-in c x m here in
    rw h ((reading-fits _ (member_in c m) (omega (arith, within-high 1 4 _ y.count)) y.shaped.long op).fits d)
effect-fits c r x form (Ok (Change m op)) f h d = rw h
