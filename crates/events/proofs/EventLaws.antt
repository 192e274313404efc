-- Setup, hand back, wipe, card reset and card store: what the code does, at each return. Assumes nothing.
use mathlib.Core.Path.{◌≡◌, refl, ap, sym, ◌∙◌}
use mathlib.Core.Logic.{◌≢◌}
use mathlib.Core.Bool.{Bool, true, false, not}
use mathlib.Core.List.{List}
use Prim.Native.Nat.{ℕ, ◌-◌, ◌≤◌}
use native.Mathlib.Nat.{sub-zero}
use borrow.Author.Rules.{rules}
use borrow.Author.Tests.{not-true, not-false, eqb-true, eq-eqb, ne_eqb}
use lib.Dec.{eqb}
use lib.ListN.{length, take, drop}
use Rattle.std.specs.Prelude.{⊤, Ok, Err}
use Rattle.theory.specs.Logic.{when◌then◌else◌, unless◌answer◌then◌, ◌and◌}
use Rattle.theory.specs.Bytes.{put}
use Rattle.theory.proofs.Tests.{both, and_i, false-and, and-false}
use Rattle.theory.proofs.Bytes.{put_all}
use Rattle.theory.proofs.Ladder.{stop, pass}
use Rattle.protocol.specs.declared.EventRefusal.{EventRefusal}
use Rattle.protocol.specs.declared.EventRefusal.TheVariants.{WrongMark}
use Rattle.protocol.specs.Answers.{EventAnswer}
use Rattle.inventory.specs.Inventory.{selector_of}
use Rattle.values.specs.Apply.{storable}
use Rattle.member.specs.declared.Member.{Member}
use Rattle.member.specs.Member.{features_size, handed_back, with_part}
use Rattle.card.specs.declared.Setup.{Setup}
use Rattle.card.specs.Layout.{card_header_size, card_size, card_bytes, setup_of, is_member, HasRecord, member_in, with_member, is_marked, with_holding, no_bytes, with_fresh, counts_from, counts_of, fresh_card}
use Rattle.card.specs.Sound.{is_sound}
use Rattle.setups.specs.declared.Setup as setups
use Rattle.setups.specs.Setup.{most_members, in_ranges, in_numbers}
use Rattle.setups.specs.Writing.{InNumbers}
use Rattle.setups.specs.Reading.{read_setup}
use Rattle.setups.proofs.Ranges.{numbers-in}
use Rattle.setups.proofs.Claims.{claims}
use Rattle.events.specs.Events.{InBounds, setup_with, refused_setup, set_up, set_up_of, member_answer, if_done, on_member, with_handed_back, store_in}
use Rattle.card.proofs.SoundLaws.{sound-of, sound-long, sound-has}

-- ---- what a test that held says ----

module _ (c : List ℕ) (t : Bool) (n : not t ≡ false) (e : t ≡ is_sound c) where
  told-sound : is_sound c ≡ true
  told-sound = sym e ∙ not-false t n

  pub told-long : card_header_size ≤ length c
  told-long = sound-long c (sound-of c told-sound)

  pub told-size : (s : Setup) → s ≡ setup_of c → length c ≡ card_size s.members
  told-size s q = rw q (sound-of c told-sound).long

  pub told-record : (m : ℕ) (u : Bool) → not u ≡ false → u ≡ is_member c m → HasRecord c m
  told-record m u h p = sound-has c (sound-of c told-sound) m (sym p ∙ not-false u h)

-- an event for one member is refused, as r says, or passed
module _ (c : List ℕ) (m : ℕ) (a : EventAnswer) (e : a ≡ member_answer c m) where
  pub member-refused : (r : EventRefusal) → a ≡ Err r → (x : EventAnswer × List ℕ) → (Err r, c) ≡ on_member c m x
  unfolding on_member if_done
  member-refused r h x = rw (← e, h) refl

  pub member-passed : (v : ⊤) → a ≡ Ok v → (x y : EventAnswer × List ℕ) → x ≡ y → x ≡ on_member c m y
  unfolding on_member if_done
  member-passed v h x y p = rw (← e, h) p

-- what a call asks after these tests
pub ruleset told = (rules, told-long, told-size, told-record)

-- ---- setup ----

pub bytes-tested : (n : ℕ) (q : List ℕ) (g s b r : ℕ) (t : Bool) → not t ≡ false → t ≡ in_numbers n q g s → r ≡ card_bytes n → eqb b r ≡ eqb b (card_size n)
unfolding card_bytes when◌then◌else◌ in_numbers in_ranges
bytes-tested n q g s b r t h e f =
    let w = (both _ _ (both _ _ (both _ _ (both _ _ (sym e ∙ not-false t h)).0).0).0).0 in
    rw (f, w)

-- the features were copied into l
pub setup-made : (n g s : ℕ) (f l own : List ℕ) → length f ≡ features_size → length l ≡ features_size → own ≡ put 0 f l → setup_with n g s own ≡ setup_with n g s f
setup-made n g s f l own h k e = rw (e, put_all f l (h ∙ sym k))

-- each test of a setup, and what it is once they are passed: t tested the numbers, r is the card's length
module _ (n : ℕ) (q : List ℕ) (g s : ℕ) (f c : List ℕ) (t : Bool) (e : t ≡ in_numbers n q g s) where
  abbrev good : Bool
  good = in_numbers n q g s and eqb (length f) features_size and eqb (length c) (card_size n)

  refused-as : good ≡ false → (x : EventAnswer × List ℕ) → x ≡ refused_setup c → x ≡ set_up c n q g s f
  unfolding set_up
  refused-as h x p = stop _ _ _ _ h p

  pub refused-numbers : not t ≡ true → (x : EventAnswer × List ℕ) → x ≡ refused_setup c → x ≡ set_up c n q g s f
  refused-numbers h = refused-as (rw (sym e ∙ not-true t h, false-and, false-and))

  module _ (h : not t ≡ false) where
    there : in_numbers n q g s ≡ true
    there = sym e ∙ not-false t h

    numbers : InNumbers n q g s
    numbers = numbers-in n q g s there

    pub setup-bounds : InBounds n g s
    setup-bounds = record { few_members = numbers.few; few_gets = numbers.few_gets; few_sets = numbers.few_sets }

    pub refused-features : length f ≢ features_size → (x : EventAnswer × List ℕ) → x ≡ refused_setup c → x ≡ set_up c n q g s f
    refused-features k = refused-as (rw (ne_eqb _ _ k, and-false, false-and))

    module _ (k : length f ≡ features_size) (r : ℕ) (b : r ≡ card_bytes n) where
      pub refused-length : length c ≢ r → (x : EventAnswer × List ℕ) → x ≡ refused_setup c → x ≡ set_up c n q g s f
      refused-length l = refused-as (rw (sym (bytes-tested n q g s (length c) r t h e b) ∙ ne_eqb _ _ l, and-false))

      module _ (l : length c ≡ r) where
        long : eqb (length c) (card_size n) ≡ true
        long = sym (bytes-tested n q g s (length c) r t h e b) ∙ eq-eqb _ _ l

        pub setup-long : length c ≡ card_size (length q)
        setup-long = eqb-true _ _ long ∙ ap card_size (sym numbers.each)

        pub setup-done : (x : Setup) (d : List ℕ) → x ≡ setup_with n g s f → d ≡ fresh_card x q 0 → (Ok tt, d) ≡ set_up c n q g s f
        unfolding set_up
        setup-done x d p y = pass _ _ _ _ (and_i _ _ (and_i _ _ there (eq-eqb _ _ k)) long) (ap (λ v. (Ok tt, v)) (y ∙ rw p))

-- a setup by value, of which the counts of its members are lent
pub set-up-by : (c d : List ℕ) (x : setups.Setup) (a : EventAnswer) → (a, d) ≡ set_up c x.members (take (x.members - 0) (drop 0 x.queues)) x.gets x.sets x.features
    → (a, d) ≡ set_up_of c x
unfolding set_up_of
set-up-by c d x a e = e ∙ rw sub-zero

-- a setup that was read has at most 16 members
pub read-few : (l : List ℕ) (x : setups.Setup) → Ok x ≡ read_setup l → x.members ≤ most_members
read-few l x e = (numbers-in _ _ _ _ (claims.in_range l x (sym e)).numbers).few

-- ---- events ----

-- t says whether m is marked
module _ (c : List ℕ) (m : ℕ) (t : Bool) (e : t ≡ is_marked c m) where
  pub back-refused : t ≡ true → (x : EventAnswer × List ℕ) → (Err WrongMark, c) ≡ unless not (is_marked c m) answer (Err WrongMark, c) then x
  back-refused h x = stop _ _ _ _ (ap not (sym e ∙ h)) refl

  pub back_done : t ≡ false → (d : List ℕ) → d ≡ with_handed_back c m
      → ◌≡◌ {A = EventAnswer × List ℕ} (Ok tt, d) (unless not (is_marked c m) answer (Err WrongMark, c) then (Ok tt, with_handed_back c m))
  back_done h d p = pass _ _ _ _ (ap not (sym e ∙ h)) (ap (λ l. (Ok tt, l)) p)

  pub wipe-refused : not t ≡ true → (x : EventAnswer × List ℕ) → (Err WrongMark, c) ≡ unless is_marked c m answer (Err WrongMark, c) then x
  wipe-refused h x = stop _ _ _ _ (sym e ∙ not-true t h) refl

  pub wipe-done : not t ≡ false → (d : List ℕ) (g : ℕ) (s : Setup) → s ≡ setup_of c → d ≡ with_fresh c m s.features g
      → ◌≡◌ {A = EventAnswer × List ℕ} (Ok tt, d) (unless is_marked c m answer (Err WrongMark, c) then (Ok tt, with_fresh c m (setup_of c).features g))
  wipe-done h d g s q f = pass _ _ _ _ (sym e ∙ not-false t h) (ap (λ l. (Ok tt, l)) (f ∙ rw q))

-- x was saved and the holding place zeroed
pub member-ended : (c d r : List ℕ) (m : ℕ) (x y : Member) → y ≡ member_in c m → x ≡ handed_back y → d ≡ with_member c m x
    → r ≡ with_holding d m no_bytes → r ≡ with_handed_back c m
unfolding with_handed_back
member-ended c d r m x y p q e f = f ∙ rw (e, q, p)

pub card-reset : (c d : List ℕ) (g : ℕ) (s : Setup) → s ≡ setup_of c → d ≡ fresh_card s (counts_from c 1 s.members) g
    → ◌≡◌ {A = EventAnswer × List ℕ} (Ok tt, d) (Ok tt, fresh_card (setup_of c) (counts_of c) g)
unfolding counts_of
card-reset c d g s e f = rw (f, e)

-- a card store: x is the member, a the answer
module _ (c : List ℕ) (m t s : ℕ) (value : List ℕ) (x : Member) (a : EventAnswer) (g : x ≡ member_in c m) (e : a ≡ storable x.queues t s value) where
  is-answer : storable (member_in c m).queues t s value ≡ a
  is-answer = ap (λ (y : Member). storable y.queues t s value) (sym g) ∙ sym e

  pub store-refused : (r : EventRefusal) → a ≡ Err r → (Err r, c) ≡ store_in c m t s value
  unfolding store_in if_done
  store-refused r h = rw (is-answer, h) refl

  pub stored-in : (v : ⊤) → a ≡ Ok v → (y : Member) (d : List ℕ) → y ≡ with_part x t s value → d ≡ with_member c m y
      → (Ok tt, d) ≡ store_in c m t s value
  unfolding store_in if_done
  stored-in v h y d q r = rw (is-answer, h) (rw (r, q, g))

pub store-done : (c d : List ℕ) (m t s k : ℕ) (value : List ℕ) (a : EventAnswer) → k ≡ selector_of t s → (a, d) ≡ store_in c m t k value
    → (a, d) ≡ store_in c m t (selector_of t s) value
store-done c d m t s k value a e f = f ∙ rw e

-- each return of an event for one member
pub ruleset on-member = (rules, member-refused, member-passed, back-refused, back_done, wipe-refused, wipe-done, store-done)
