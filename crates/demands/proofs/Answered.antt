-- Which messages are answered, and what they do. Assumes nothing.
use mathlib.Core.Path.{◌≡◌, refl, ap, sym, ◌∙◌}
use mathlib.Core.Bool.{true, false}
use mathlib.Core.List.{List, []}
use Prim.Native.Nat.{ℕ, ◌+◌, ◌≤◌, ◌<◌}
use native.Mathlib.Omega.{arith}
use borrow.Author.Tests.{eqb-true, eq-eqb, ne_eqb, leb-true, le-leb, lt-leb}
use lib.Dec.{leb, eqb}
use lib.ListN.{length, drop, length-drop}
use Rattle.std.specs.Prelude.{Option, Some, None}
use Rattle.theory.specs.Logic.{when◌then◌else◌, unless◌answer◌then◌, ◌and◌}
use Rattle.theory.specs.Bytes.{bytes_at, put}
use Rattle.theory.proofs.Tests.{by_cases, unless-cases, both, and_i, inside, within-high}
use Rattle.theory.proofs.Bytes.{length-put, put-eq, put-nil, length-bytes_at}
use Rattle.wire.specs.Le.{number}
use Rattle.card.specs.Layout.{setup_of, is_member, member_in, is_marked, configuration_in, generation_in, with_configuration}
use Rattle.card.specs.Sound.{is_sound}
use Rattle.card.proofs.ConfigurationLaws.{configuration-long, configuration-same, generation-same}
use Rattle.card.proofs.SoundLaws.{sound-of, sound-has}
use Rattle.message.specs.declared.Access.{Access}
use Rattle.message.specs.declared.Access.TheVariants.{Read, Write}
use Rattle.message.specs.Format.{msg_id_of, member_for, data_of, length_of, response_of}
use Rattle.message.specs.Access.{is_request, read_in, write_in, whole_of}
use Rattle.message.specs.Message.{is_inside, readable, is_applied, next_generation, applied_to, act_of, fitting, access_in, answer_of, delivered, message_of}
use Rattle.message.proofs.Asked.{access-cases}
use Rattle.message.proofs.Responded.{response-long}
use Rattle.message.proofs.Cases.{answer-unsound, answer-sound}
use Rattle.demands.specs.Calls.{message, responded, of_message, step}
use Rattle.demands.specs.Answered.{Header, ReadRequest, WriteRequest, Reaches, Applied, Answered, MessagesAnswered}

-- ---- what is asked ----

module _ (x : List ℕ) where
  is-request : {id d : ℕ} → Header x id d → 8 ≤ length x → is_request x ≡ true
  unfolding is_request
  is-request h l = and_i _ _ (and_i _ _ (le-leb _ _ l) (eq-eqb _ _ h.request)) (eq-eqb _ _ h.size)

  whole-read : (d offset n : ℕ) → ReadRequest x d offset n → whole_of x ≡ Some (Read (d + 1) offset n)
  unfolding whole_of read_in when◌then◌else◌ unless◌answer◌then◌
  whole-read d offset n r =
      let l = r.long in
      rw (
        is-request r.header (omega arith),
        eq-eqb (msg_id_of x) 5 r.header.kind,
        eq-eqb (length x) 16 l,
        r.header.device,
        r.from,
        r.count,
      )

  whole-write : (d sent offset : ℕ) (bs : List ℕ) → WriteRequest x d sent offset bs
      → whole_of x ≡ Some (Write (d + 1) sent offset (length bs))
  unfolding whole_of write_in when◌then◌else◌ unless◌answer◌then◌
  whole-write d sent offset bs w =
      let l = w.long in
      let k : eqb (20 + length_of x) (length x) ≡ true = eq-eqb _ _ (ap (20 +◌) w.count ∙ sym l) in
      let i : eqb (msg_id_of x) 5 ≡ false = ne_eqb (msg_id_of x) 5 (λ (e : msg_id_of x ≡ 5). omega (arith, w.header.kind)) in
      rw (
        is-request w.header (omega arith),
        i,
        eq-eqb (msg_id_of x) 6 w.header.kind,
        k,
        w.header.device,
        w.generation,
        w.from,
        w.count,
      )

  module _ (t : is_request x ≡ true) where
    header_of : (id : ℕ) → msg_id_of x ≡ id → Header x id (number 2 2 x)
    unfolding is_request
    header_of id e =
        let a = both _ _ t in
        record { request = eqb-true _ _ (both _ _ a.0).1; kind = e; device = refl; size = eqb-true _ _ a.1 }

  whole-none : ((d offset n : ℕ) → ReadRequest x d offset n → ⊥)
      → ((d sent offset : ℕ) (bs : List ℕ) → WriteRequest x d sent offset bs → ⊥)
      → whole_of x ≡ None
  unfolding whole_of read_in write_in when◌then◌else◌ unless◌answer◌then◌
  whole-none f g =
      by_cases (is_request x)
      (λ t. rw t
      (by_cases (eqb (msg_id_of x) 5)
      (λ i. rw i (by_cases (eqb (length x) 16)
      (λ l. absurd (f _ _ _ (record { header = header_of t 5 (eqb-true _ 5 i); long = eqb-true _ 16 l; from = refl; count = refl })))
      (λ l. rw l)))
      (λ i. rw i (by_cases (eqb (msg_id_of x) 6)
      (λ j. rw j (by_cases (eqb (20 + length_of x) (length x))
      (λ l.
      let e : 20 + number 16 4 x ≡ length x = eqb-true _ _ l in
      let k : length (drop 20 x) ≡ number 16 4 x = length-drop 20 x ∙ omega arith in
      absurd (g _ _ _ (drop 20 x) (record {
        header = header_of t 6 (eqb-true _ 6 j);
        long = sym e ∙ ap (20 +◌) (sym k);
        generation = refl;
        from = refl;
        count = sym k;
        bytes = refl;
      })))
      (λ l. rw l)))
      (λ j. rw j)))))
      (λ t. rw t)

-- ---- a response that fits, and one that does not ----

module _ (c : List ℕ) (room : ℕ) (y : List ℕ × List ℕ) where
  fits : length y.1 ≤ room → fitting c room y ≡ y
  unfolding fitting unless◌answer◌then◌
  fits h = rw (le-leb _ _ h)

  fits_not : room < length y.1 → fitting c room y ≡ (c, [])
  unfolding fitting unless◌answer◌then◌
  fits_not h = rw (lt-leb _ _ h)

none-fits : (c x : List ℕ) (room : ℕ) → fitting c room (act_of c x None) ≡ (c, [])
unfolding act_of
none-fits c x room = fits c room (c, []) (omega arith)

-- no response has fewer than 20 bytes
long-response : (c x : List ℕ) (room : ℕ) (y : List ℕ) (g offset : ℕ) (bs : List ℕ) → room < 20
    → fitting c room (y, response_of x g offset bs) ≡ (c, [])
long-response c x room y g offset bs h = fits_not c room (y, response_of x g offset bs) (rw response-long (omega arith))

short-room : (c x : List ℕ) (room : ℕ) → room < 20 → (a : Option Access) → fitting c room (act_of c x a) ≡ (c, [])
unfolding act_of applied_to
short-room c x room h None = none-fits c x room
short-room c x room h (Some (Read m offset n)) = long-response c x room c _ offset _ h
short-room c x room h (Some (Write m sent offset n)) =
    unless-cases (λ (y : List ℕ × List ℕ). fitting c room y ≡ (c, [])) _ _ _
    (λ t. long-response c x room c _ offset [] h) (λ t. long-response c x room _ _ offset (data_of x) h)

-- ---- whom it reaches ----

module _ (c x : List ℕ) where
  -- nothing is asked where nobody is reached
  nobody : (Reaches c (number 2 2 x) → ⊥) → is_sound c ≡ true → access_in c x ≡ None
  unfolding access_in is_marked ◌and◌ unless◌answer◌then◌
  nobody f s =
      by_cases (is_member c (member_for x))
      (λ h. rw h (by_cases (member_in c (member_for x)).marked
      (λ u. rw u)
      (λ u. absurd (f (record {
        sound = s;
        here = omega (
          arith,
          within-high 1 (setup_of c).members (member_for x) h,
        );
        unmarked = u;
      })))))
      (λ h. rw h)

  reached : (d : ℕ) → Reaches c d → number 2 2 x ≡ d → access_in c x ≡ whole_of x
  unfolding access_in is_marked ◌and◌ unless◌answer◌then◌
  reached d r e =
      let l = r.here in
      rw (e, inside 1 (setup_of c).members (d + 1) (omega arith) (omega arith), r.unmarked)

-- ---- what is done ----

module _ (c : List ℕ) (d : ℕ) (r : Reaches c d) (x : List ℕ) (room : ℕ) where
  abbrev conf : List ℕ
  conf = configuration_in c (d + 1)

  abbrev current : ℕ
  current = generation_in c (d + 1)

  member-here : is_member c (d + 1) ≡ true
  member-here = let l = r.here in inside 1 (setup_of c).members (d + 1) (omega arith) (omega arith)

  twelve : length conf ≡ 12
  twelve = configuration-long c (d + 1) (sound-has c (sound-of c r.sound) (d + 1) member-here)

  acted : (a : Option Access) → number 2 2 x ≡ d → whole_of x ≡ a → answer_of c x room ≡ fitting c room (act_of c x a)
  acted a e w = answer-sound c x room r.sound ∙ ap (λ b. fitting c room (act_of c x b)) (reached c x d r e ∙ w)

  -- the answer to an access that leaves the card and has these bytes
  told : (a : Option Access) (offset : ℕ) (bs : List ℕ) → number 2 2 x ≡ d → whole_of x ≡ a
      → act_of c x a ≡ (c, response_of x current offset bs)
      → 20 + length bs ≤ room → step c (message x room) ≡ (c, responded (response_of x current offset bs))
  unfolding step
  told a offset bs e w y h =
      ap of_message (acted a e w ∙ rw y (fits c room (c, response_of x current offset bs) (rw response-long h)))

  not-told : (a : Option Access) (y : List ℕ) (g offset : ℕ) (bs : List ℕ) → number 2 2 x ≡ d → whole_of x ≡ a
      → act_of c x a ≡ (y, response_of x g offset bs)
      → room < 20 + length bs → step c (message x room) ≡ (c, responded [])
  unfolding step
  not-told a y g offset bs e w z h =
      ap of_message (acted a e w ∙ rw z (fits_not c room (y, response_of x g offset bs) (rw response-long h)))

  module _ (offset n : ℕ) (q : ReadRequest x d offset n) where
    read-inside : offset + n ≤ 12 → act_of c x (Some (Read (d + 1) offset n)) ≡ (c, response_of x current offset (bytes_at offset n conf))
    unfolding act_of readable is_inside when◌then◌else◌
    read-inside h = rw (le-leb _ 12 h)

    read_past : 12 < offset + n → act_of c x (Some (Read (d + 1) offset n)) ≡ (c, response_of x current offset [])
    unfolding act_of readable is_inside when◌then◌else◌
    read_past h = rw (lt-leb _ 12 h)

    read-long : offset + n ≤ 12 → length (bytes_at offset n conf) ≡ n
    read-long h = length-bytes_at offset n conf (rw twelve h)

  module _ (sent offset : ℕ) (bs : List ℕ) (q : WriteRequest x d sent offset bs) where
    write-applied : sent ≡ current → 1 ≤ length bs → offset + length bs ≤ 12
        → act_of c x (Some (Write (d + 1) sent offset (length bs))) ≡ applied_to c (d + 1) x offset
    unfolding act_of is_applied is_inside unless◌answer◌then◌
    write-applied e k h =
        rw (and_i _ _ (and_i _ _ (le-leb 1 (length bs) k) (eq-eqb sent current e)) (le-leb (offset + length bs) 12 h))

    write-stale : (1 ≤ length bs → sent ≡ current → offset + length bs ≤ 12 → ⊥)
        → act_of c x (Some (Write (d + 1) sent offset (length bs))) ≡ (c, response_of x current offset [])
    unfolding act_of is_applied is_inside unless◌answer◌then◌
    write-stale f =
        by_cases (leb 1 (length bs) and eqb sent current and leb (offset + length bs) 12)
        (λ t.
        let a = both _ _ t in
        let b = both _ _ a.0 in
        absurd (f (leb-true _ _ b.0) (eqb-true _ _ b.1) (leb-true _ _ a.1)))
        (λ t. rw t)

  -- an applied write
  module _ (offset : ℕ) (bs : List ℕ) (q : WriteRequest x d current offset bs) (k : 1 ≤ length bs)
      (h : offset + length bs ≤ 12) where
    applied-as : act_of c x (Some (Write (d + 1) current offset (length bs)))
        ≡ (
          with_configuration c (d + 1) (put offset bs conf) (next_generation current),
          response_of x (next_generation current) offset bs,
        )
    unfolding applied_to
    applied-as = write-applied current offset bs q refl k h ∙ rw q.bytes

    written : 20 + length bs ≤ room → step c (message x room)
        ≡ (
          with_configuration c (d + 1) (put offset bs conf) (next_generation current),
          responded (response_of x (next_generation current) offset bs),
        )
    unfolding step
    written l =
        ap of_message (acted _ q.header.device (whole-write x d current offset bs q)
        ∙ rw applied-as (fits c room (
          with_configuration c (d + 1) (put offset bs conf) (next_generation current),
          response_of x (next_generation current) offset bs,
        ) (rw response-long l)))

    is-applied : Applied c x (d + 1) offset bs (with_configuration c (d + 1) (put offset bs conf) (next_generation current))
        (responded (response_of x (next_generation current) offset bs))
    unfolding next_generation
    is-applied =
        let a = sound-has c (sound-of c r.sound) (d + 1) member-here in
        let n : length (put offset bs conf) ≡ 12 = length-put offset bs conf ∙ twelve in
        let g = generation-same c (d + 1) (put offset bs conf) (next_generation current) a n (omega arith) in
        record {
          written = configuration-same c (d + 1) (put offset bs conf) (next_generation current) a n
              ∙ put-eq offset bs conf (rw twelve h);
          moved = λ l. g ∙ omega arith;
          around = λ e. g ∙ rw e;
          told = rw g;
        }

  too_short : room < 20 → step c (message x room) ≡ (c, responded [])
  unfolding step
  too_short h = ap of_message (answer-sound c x room r.sound ∙ short-room c x room h (access_in c x))

  pub is-answered : Answered c d x room
  is-answered = record {
    reads = λ offset n q h l.
        told _ offset _ q.header.device (whole-read x d offset n q) (read-inside offset n q h)
        (rw (read-long offset n q h) l);
    reads_past = λ offset n q h l. told _ offset [] q.header.device (whole-read x d offset n q) (read_past offset n q h) l;
    writes = λ offset bs q k h l. rw (written offset bs q k h l) (is-applied offset bs q k h);
    not_applied = λ sent offset bs q f l.
        told _ offset [] q.header.device (whole-write x d sent offset bs q) (write-stale sent offset bs q f) l;
    short = too_short;
    short_read = λ offset n q h l.
        not-told _ c current offset _ q.header.device (whole-read x d offset n q) (read-inside offset n q h)
        (rw (read-long offset n q h) l);
    short_write = λ offset bs q k h l.
        not-told _ _ _ offset bs q.header.device (whole-write x d current offset bs q) (applied-as offset bs q k h) l;
  }

-- ---- no response ----

bus-outcome : (c x : List ℕ) (room : ℕ) → (is_sound c ≡ true → access_in c x ≡ None) → answer_of c x room ≡ (c, [])
bus-outcome c x room f =
    by_cases (is_sound c)
    (λ s. answer-sound c x room s ∙ rw (f s) (none-fits c x room))
    (λ s. answer-unsound c x room s)

unsound-outcome : (c x b : List ℕ) → is_sound c ≡ false → message_of c x b ≡ (0, (c, b))
unfolding message_of delivered
unsound-outcome c x b e = rw (answer-unsound c x (length b) e, put-nil)

none-asked : (c x : List ℕ) → whole_of x ≡ None → access_in c x ≡ None
unfolding access_in
none-asked c x e = access-cases c x (λ a. a ≡ None) refl (λ f. e)

pub messages-answered : MessagesAnswered
unfolding step
messages-answered = record {
  answered = is-answered;
  unsound = unsound-outcome;
  elsewhere = λ c x room f. ap of_message (bus-outcome c x room (nobody c x f));
  not_whole = λ c x room f g. ap of_message (bus-outcome c x room (λ s. none-asked c x (whole-none x f g)));
}
