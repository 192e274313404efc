-- CALLS FOR THE CARD'S OWN FIRMWARE: what they tell of a wiped member, a card's setup that is set up anew, and demand 3. Assumes
-- nothing.
use mathlib.Core.Path.{◌≡◌, refl, ap, sym, ◌∙◌}
use mathlib.Core.Bool.{Bool, true}
use mathlib.Core.List.{List, [], ◌∷◌, ◌++◌}
use Prim.Native.Nat.{ℕ, zero, ◌+◌, ◌^◌, ◌≤◌, ◌<◌}
use native.Mathlib.Nat.{add-zero}
use native.Mathlib.Omega.{arith}
use borrow.Author.Tests.{eq-eqb}
use lib.ListN.{length, take, length-append}
use lib.Seq.{take_at, drop_at, take_all}
use Rattle.std.specs.Prelude.{Err, Ok}
use Rattle.theory.specs.Logic.{when◌then◌else◌, unless◌answer◌then◌, ◌and◌, indicator}
use Rattle.theory.specs.Bytes.{bytes_at}
use Rattle.theory.specs.Machine.{Observation, replied, exposed, trace, run, seen}
use Rattle.theory.proofs.Tests.{by_cases}
use Rattle.theory.proofs.Bytes.{bytes_at-bytes_at}
use Rattle.wire.specs.Le.{le, bytes}
use Rattle.wire.proofs.Le.{length-bytes, le_bytes}
use Rattle.protocol.specs.declared.EventRefusal.TheVariants.{NotSound, NoMember, WrongMark}
use Rattle.protocol.specs.Answers.{EventAnswer, event_number}
use Rattle.objects.specs.Objects.{count}
use Rattle.member.specs.declared.Member.{Member}
use Rattle.member.specs.Record.{holding_size}
use Rattle.member.specs.Member.{fresh_of}
use Rattle.member.proofs.Record.{Shaped, fresh-shaped}
use Rattle.setups.specs.Setup.{features_size}
use Rattle.setups.specs.Writing.{written}
use Rattle.card.specs.Layout.{configuration_at, configuration_size, generation_at, generation_size, holding_at, card_size, setup_of, is_member, record_at, HasRecord, record_bytes, member_in, with_member, is_marked, counts_of, configuration_in, generation_in, with_configuration, no_configuration, with_holding, with_fresh, with_record, fresh_card}
use Rattle.card.specs.Sound.{is_sound}
use Rattle.card.proofs.RecordBytesLaws.{bytes_same, bytes-before}
use Rattle.card.proofs.MemberLaws.{length-with-member}
use Rattle.card.proofs.RecordLaws.{no-configuration-long, setup-with-record, member-with-record, record-in-three}
use Rattle.card.proofs.HeaderLaws.{features-long}
use Rattle.card.proofs.CountLaws.{counts-numbers}
use Rattle.card.proofs.SoundLaws.{sound-of, sound-long, sound-has}
use Rattle.events.proofs.Cases.{number-zero}
use Rattle.events.specs.Events.{set_up, set_up_from, member_answer, if_done, on_member, wipe as wipe_of, reset_card}
use Rattle.loads.specs.Loads.{load, lent, state_of, live_of, summary_of, numbers_of, member_told, configuration_for, configuration_told, setup_of_card}
use Rattle.demands.specs.Calls.{wipe, step, names}
use Rattle.demands.specs.Claims.{LoadsIsolated}
use Rattle.demands.specs.Loads.{ReadsFresh, LoadWiped, SetUpAgain, SetupAgain}
use Rattle.demands.proofs.Sound.{stays-sound}
use Rattle.demands.proofs.Demand1.{sets-up}
use Rattle.demands.proofs.QueuesKept.{set-up-from-packed}
use Rattle.demands.proofs.Isolation.{number_of, isolation}
use Rattle.demands.proofs.Loads.{call-on, load-on}

-- ---- after a wipe ----

-- a configuration and a generation that are put are there
module _ (c : List ℕ) (m : ℕ) (x : List ℕ) (g : ℕ) (e : length x ≡ configuration_size) (h : HasRecord c m) where
  abbrev place : ℕ
  place = record_at m + configuration_at

  both-there : record_bytes (with_configuration c m x g) m configuration_at (configuration_size + generation_size) ≡ x ++ bytes generation_size g
  unfolding with_configuration
  both-there =
      bytes_same c m configuration_at (configuration_size + generation_size) (x ++ bytes generation_size g) h (omega arith)
      (rw (length-append, e, length-bytes generation_size g))

  pub configuration-there : configuration_in (with_configuration c m x g) m ≡ x
  unfolding configuration_in record_bytes
  configuration-there =
      let w = bytes_at-bytes_at 0 configuration_size place (configuration_size + generation_size) (with_configuration c m x g) (omega arith) in
      sym (rw add-zero at w) ∙ ap (take configuration_size) both-there ∙ take_at x (bytes generation_size g) configuration_size e

  pub generation-there : g < 256 ^ 4 → generation_in (with_configuration c m x g) m ≡ g
  unfolding generation_in record_bytes
  generation-there l =
      let w = bytes_at-bytes_at configuration_size generation_size place (configuration_size + generation_size) (with_configuration c m x g) (omega arith) in
      let k : place + configuration_size ≡ record_at m + generation_at = omega arith in
      let n = length-bytes generation_size g in
      ap le (sym (rw k at w) ∙ ap (bytes_at configuration_size generation_size) both-there
      ∙ ap (take generation_size) (drop_at x (bytes generation_size g) configuration_size e) ∙ take_all generation_size (bytes generation_size g) (omega arith))
      ∙ le_bytes generation_size g l

-- the bytes of a record before its holding place
before-holding : (c : List ℕ) (m : ℕ) (y : List ℕ) (at n : ℕ) → at + n ≤ holding_at → record_bytes (with_holding c m y) m at n ≡ record_bytes c m at n
unfolding with_holding
before-holding c m y at n h = bytes-before c m holding_at holding_size y at n h

-- those of a record made anew
module _ (c : List ℕ) (m : ℕ) (z : Member) (g : ℕ) (s : Shaped z) (h : HasRecord c m) where
  has-after : HasRecord (with_member c m z) m
  has-after = record { low = h.low; high = rw length-with-member h.high }

  pub configuration-made : configuration_in (with_record c m z g) m ≡ no_configuration
  unfolding configuration_in
  configuration-made =
      rw (record-in-three c m z g s) (before-holding _ m _ configuration_at configuration_size (omega arith)
      ∙ configuration-there (with_member c m z) m no_configuration g no-configuration-long has-after)

  pub generation-made : g < 2 ^ 32 → generation_in (with_record c m z g) m ≡ g
  unfolding generation_in
  generation-made l =
      rw (record-in-three c m z g s) (ap le (before-holding _ m _ generation_at generation_size (omega arith))
      ∙ generation-there (with_member c m z) m no_configuration g no-configuration-long has-after l)

module _ (c : List ℕ) (m g : ℕ) where
  abbrev fresh : Member
  fresh = fresh_of (member_in c m).queues (setup_of c).features

  -- a wipe that is done
  record WipedIn : Type 0 where
    sound : is_sound c ≡ true
    here : is_member c m ≡ true
    card : wipe_of c m g ≡ (Ok tt, with_fresh c m (setup_of c).features g)

  wiped-in : event_number (wipe_of c m g).0 ≡ 0 → WipedIn
  unfolding wipe_of on_member if_done member_answer unless◌answer◌then◌
  wiped-in n =
      by_cases (is_sound c)
      (λ e. by_cases (is_member c m)
      (λ h. by_cases (is_marked c m)
      (λ k. record { sound = e; here = h; card = rw (e, h, k) refl })
      (λ k. absurd (number-zero (Err WrongMark) refl (rw (e, h, k) at n))))
      (λ h. absurd (number-zero (Err NoMember) refl (rw (e, h) at n))))
      (λ e. absurd (number-zero (Err NotSound) refl (rw e at n)))

  module _ (z : WipedIn) (l : g < 2 ^ 32) where
    abbrev d : List ℕ
    d = with_fresh c m (setup_of c).features g

    has : HasRecord c m
    has = sound-has c (sound-of c z.sound) m z.here

    shaped : Shaped fresh
    shaped = fresh-shaped _ _ (features-long c (omega (arith, sound-long c (sound-of c z.sound))))

    sound-after : is_sound d ≡ true
    unfolding step
    sound-after = ap (λ (y : EventAnswer × List ℕ). is_sound y.1) (sym z.card) ∙ stays-sound c (wipe m g) z.sound

    here-after : is_member d m ≡ true
    here-after = rw setup-with-record z.here

    fresh-numbers : numbers_of (summary_of fresh) ≡ (0, ((member_in c m).queues, (0, (0, 0))))
    unfolding summary_of state_of live_of fresh_of count indicator when◌then◌else◌
    fresh-numbers = refl

    reads-fresh : ReadsFresh c m g d
    unfolding member_told configuration_told configuration_for unless◌answer◌then◌
    reads-fresh = record {
      parts = load-on d m sound-after here-after fresh (member-with-record c m fresh g shaped has);
      member = λ n.
          call-on d m _ n sound-after here-after ∙ rw (member-with-record c m fresh g shaped has) (ap (λ y. (Ok tt, y)) fresh-numbers);
      configuration = λ b n k.
          call-on d m _ (b, n) sound-after here-after
          ∙ rw (eq-eqb _ _ k, configuration-made c m fresh g shaped has, generation-made c m fresh g shaped has l);
    }

pub load-wiped : LoadWiped
unfolding step number_of
load-wiped c m g e l =
    let z = wiped-in c m g (ap number_of e) in
    rw z.card (reads-fresh c m g z l)

-- ---- a setup that is set up anew ----

module _ (c b d : List ℕ) (n : ℕ) (w : ◌≡◌ {A = ℕ × List ℕ} (n, d) (setup_of_card c b)) (some : n ≡ 0 → ⊥) where
  setup-sound : is_sound c ≡ true
  unfolding setup_of_card unless◌answer◌then◌
  setup-sound = by_cases (is_sound c) (λ e. e) (λ e. absurd (some (ap (λ (y : ℕ × List ℕ). y.0) (rw e at w))))

  setup-written : ◌≡◌ {A = ℕ × List ℕ} (n, d) (written b (setup_of c).members (counts_of c) (setup_of c).gets (setup_of c).sets (setup_of c).features)
  unfolding setup_of_card unless◌answer◌then◌
  setup-written = w ∙ rw setup-sound

  module _ (x : List ℕ) (l : length x ≡ length c) where
    abbrev again : EventAnswer × List ℕ
    again = set_up x (setup_of c).members (counts_of c) (setup_of c).gets (setup_of c).sets (setup_of c).features

    again-is : again ≡ (Ok tt, fresh_card (setup_of c) (counts_of c) 0)
    unfolding set_up unless◌answer◌then◌ ◌and◌
    again-is =
        let s = sound-of c setup-sound in
        let f : length (setup_of c).features ≡ features_size = features-long c (omega (arith, sound-long c s)) in
        rw (counts-numbers c s, eq-eqb _ _ f, eq-eqb (length x) (card_size (setup_of c).members) (l ∙ s.long)) refl

    from-packed : set_up_from x (take n d) ≡ again
    from-packed = set-up-from-packed x b _ (counts_of c) _ _ _ n d setup-written some

    abbrev answer_of : EventAnswer × List ℕ → EventAnswer
    answer_of y = y.0

    abbrev card_of : EventAnswer × List ℕ → List ℕ
    card_of y = y.1

    set-up-again : SetUpAgain c x d n
    unfolding step reset_card unless◌answer◌then◌
    set-up-again =
        let k = sets-up.done x _ (counts_of c) _ _ (setup_of c).features (ap answer_of again-is) in
        record {
          done = ap answer_of (from-packed ∙ again-is);
          card = rw setup-sound (ap card_of (from-packed ∙ again-is));
          sound = ap (λ (y : EventAnswer × List ℕ). is_sound y.1) from-packed ∙ k.0;
          setup = ap (λ (y : EventAnswer × List ℕ). setup_of y.1) from-packed ∙ k.1;
          counts = ap (λ (y : EventAnswer × List ℕ). counts_of y.1) from-packed ∙ k.2;
        }

pub setup-again : SetupAgain
setup-again c b x d n w some l = set-up-again c b d n w some x l

-- ---- demand 3 ----

-- the last state that an observer sees, or a
module _ {State Call Reply : Type 0} (step : State → Call → State × Reply) (hidden : Call → Bool) where
  last : State → List (Observation State Call Reply) → State
  last a [] = a
  last a (replied c x ∷ l) = last a l
  last a (exposed c x s ∷ l) = last s l

  -- is the one at the end of the run
  last-later : (t : List Call) (a : State) → last a (seen hidden zero (trace step a t)) ≡ run step a t
  unfolding run trace seen last
  last-later [] a = refl
  last-later (c ∷ t) a = last-later t (step a c).0

  last-seen : (p : List Call) (r : Call) (t : List Call) (a d : State)
      → last d (seen hidden (length p) (trace step a (p ++ r ∷ t))) ≡ run step a (p ++ r ∷ t)
  unfolding run trace seen last when◌then◌else◌
  last-seen [] r t a d = last-later t (step a r).0
  last-seen (c ∷ p) r t a d = by_cases (hidden c) (λ e. rw e (last-seen p r t (step a c).0 d)) (λ e. rw e (last-seen p r t (step a c).0 d))

pub loads-isolated : LoadsIsolated
loads-isolated c₁ c₂ e₁ e₂ m h d k q p₁ p₂ v r w t =
    let z = sym (last-seen step (names m) p₁ r t c₁ c₁) ∙ ap (last step (names m) c₁) (isolation c₁ c₂ e₁ e₂ m h d k q p₁ p₂ v r w t)
    ∙ last-seen step (names m) p₂ r t c₂ c₁ in
    record {
      loads = λ k t s b. ap (λ c. load c k t s b) z;
      lents = λ k t s. ap (λ c. lent c k t s) z;
      members = λ k l. ap (λ c. member_told c k l) z;
      configurations = λ k l. ap (λ c. configuration_told c k l) z;
      setups = λ b. ap (λ c. setup_of_card c b) z;
    }
