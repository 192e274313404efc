-- CALLS FOR THE CARD'S OWN FIRMWARE: when each answers 0, and what a load gives after a store, a list that is set and a wipe.
-- Assumes nothing.
use Rattle.std.specs.Prelude.{Ok, Err}
use mathlib.Core.Path.{◌≡◌, refl, ap, sym, ◌∙◌}
use mathlib.Core.Bool.{Bool, true, false, not}
use mathlib.Core.List.{List}
use Prim.Native.Nat.{ℕ, ◌≤◌, ◌<◌}
use native.Mathlib.Omega.{arith}
use borrow.Author.Tests.{ltb-true, eqb-true, eq-eqb, ne_eqb, lt-ltb}
use lib.Dec.{leb, ltb, eqb}
use lib.ListN.{length, get_or, length-append}
use Rattle.std.specs.Prelude.{Err, Ok, is_ok, Option, Some, None}
use Rattle.theory.specs.Logic.{when◌then◌else◌, unless◌answer◌then◌, ◌and◌}
use Rattle.theory.proofs.Tests.{by_cases, both, never, unless-cases, within-high}
use Rattle.wire.specs.Le.{bytes}
use Rattle.protocol.specs.declared.Refusal.TheVariants as refusal
use Rattle.protocol.specs.declared.EventRefusal.TheVariants.{NotSound, NoMember, NoPart, WrongLength, BadQueueSize}
use Rattle.protocol.specs.Answers.{EventAnswer, event_number}
use Rattle.inventory.specs.Inventory.{row_at, value_of, selector_of, place_of, on_place}
use Rattle.inventory.specs.Queue.{value_allowed}
use Rattle.inventory.proofs.Find.{place_found}
use Rattle.inventory.proofs.Values.{own_value}
use Rattle.parts.specs.declared.ListForm.TheVariants.{Parts}
use Rattle.parts.specs.List.{parts_of, value_or, longest_list}
use Rattle.rules.specs.Rules.{cause_of, is_accepted}
use Rattle.rules.proofs.Accepted.{accepts}
use Rattle.values.specs.Apply.{storable, applied}
use Rattle.values.proofs.Kept.{stored_at, stored-length}
use Rattle.restore.proofs.Applied.{applied-at}
use Rattle.member.specs.declared.Member.{Member}
use Rattle.member.specs.Member.{features_in, with_part}
use Rattle.member.proofs.Record.{Shaped, shaped-values}
use Rattle.setups.specs.Setup.{features_size}
use Rattle.setups.specs.Writing.{packed_setup, placed, written}
use Rattle.setups.proofs.Claims.{claims}
use Rattle.card.specs.Layout.{counts_of, configuration_size, setup_of, is_member, member_in, with_member}
use Rattle.card.specs.Sound.{is_sound}
use Rattle.card.proofs.MemberLaws.{setup-with-member, member-same}
use Rattle.card.proofs.HeaderLaws.{features-long}
use Rattle.card.proofs.CountLaws.{counts-numbers}
use Rattle.card.proofs.SoundLaws.{sound-of, sound-long, sound-has, sound-member-in}
use Rattle.events.proofs.Cases.{if-done-on, if-done-off, number-zero}
use Rattle.events.specs.Events.{member_answer, if_done, on_member, store, store_in}
use Rattle.reply.specs.Reply.{head_of}
use Rattle.loads.specs.Loads.{part_of, load_in, load, lent, member_told, configuration_for, configuration_told, setup_of_card}
use Rattle.loads.proofs.PartLaws.{load-cases}
use Rattle.staging.proofs.PartsSet.{parts_set_of, respond-parts-set}
use Rattle.demands.specs.Calls.{card_store, step}
use Rattle.demands.specs.Lists.{Settable, set_list}
use Rattle.demands.specs.Loads.{loadable, packed_of, AnsweredExactly, RefusedUnwritten, LoadIsLent, LoadStored, LoadSet}
use Rattle.protocol.specs.declared.ObjectKind.TheVariants.{Set}
use Rattle.changes.specs.Changes.{set_parts_of}
use Rattle.demands.proofs.Sound.{stays-sound}
use Rattle.demands.proofs.Isolation.{number_of}
use Rattle.demands.proofs.Setting.{settable, valid, small, unmarked, set_is, member-after, card_set, member_set, settable-after}

-- ---- a call by its cases ----

-- what holds of each refusal, and of what is done on a sound card with the member, holds of the call
call-cases : {A : Type 0} (c : List ℕ) (m : ℕ) (x : EventAnswer × A) (l : A) (P : EventAnswer × A → Type 0)
    → ((a : EventAnswer) → is_ok a ≡ false → is_sound c and is_member c m ≡ false → P (a, l))
    → (is_sound c ≡ true → is_member c m ≡ true → P x) → P (if_done (member_answer c m) x l)
unfolding if_done member_answer unless◌answer◌then◌ ◌and◌
call-cases c m x l P f g =
    by_cases (is_sound c)
    (λ s. rw s (by_cases (is_member c m) (λ h. rw h (g s h)) (λ h. rw h (f (Err NoMember) refl (rw (s, h))))))
    (λ s. rw s (f (Err NotSound) refl (rw s)))

-- on a sound card with the member
pub call-on : {A : Type 0} (c : List ℕ) (m : ℕ) (x : EventAnswer × A) (l : A) → is_sound c ≡ true → is_member c m ≡ true
    → if_done (member_answer c m) x l ≡ x
unfolding if_done member_answer unless◌answer◌then◌
call-on c m x l s h = rw (s, h)

-- ---- exactly when each answers 0 ----

load-in-done : (x : Member) (t s : ℕ) (b : List ℕ)
    → is_ok (load_in x t s b).0 ≡ on_place (place_of x.queues t s) (λ i. eqb (length b) (row_at i).size) false
unfolding load_in unless◌answer◌then◌
load-in-done x t s b = cases (place_of x.queues t s)
  where
    cases : (p : Option ℕ)
        → is_ok (on_place {A = EventAnswer × List ℕ} p (λ i. unless eqb (length b) (row_at i).size answer (Err WrongLength, b) then (Ok tt, value_of x.values i)) (Err NoPart, b)).0
        ≡ on_place p (λ i. eqb (length b) (row_at i).size) false
    cases (Some i) = by_cases (eqb (length b) (row_at i).size) (λ e. rw e) (λ e. rw e)
    cases None = refl

-- a packed setup has at least its features
some-packed : (c : List ℕ) → length (setup_of c).features ≡ features_size → features_size ≤ length (packed_of c)
unfolding packed_setup
some-packed c f = rw length-append (omega arith)

setup-done : (c b : List ℕ) → not (eqb (setup_of_card c b).0 0) ≡ is_sound c and leb (length (packed_of c)) (length b)
unfolding setup_of_card written placed unless◌answer◌then◌ ◌and◌
setup-done c b =
    by_cases (is_sound c)
    (λ e.
    let s = sound-of c e in
    let f : length (setup_of c).features ≡ features_size = features-long c (omega (arith, sound-long c s)) in
    rw (e, counts-numbers c s, eq-eqb _ _ f) (by_cases (leb (length (packed_of c)) (length b))
    (λ h. rw (h, ne_eqb (length (packed_of c)) 0 (omega (arith, some-packed c f))))
    (λ h. rw h)))
    (λ e. rw e)

pub answered-exactly : AnsweredExactly
unfolding load member_told configuration_told configuration_for loadable unless◌answer◌then◌ ◌and◌
answered-exactly = record {
  loads = λ c m t s b.
      call-cases c m _ b (λ y. is_ok y.0 ≡ loadable c m t s (length b))
      (λ a d e. rw e d)
      (λ e h. rw (e, h) (load-in-done (member_in c m) t (selector_of t s) b));
  members = λ c m l. call-cases c m _ l (λ y. is_ok y.0 ≡ is_sound c and is_member c m) (λ a d e. rw e d) (λ e h. rw (e, h) refl);
  configurations = λ c m b g.
      call-cases c m _ (b, g) (λ y. is_ok y.0 ≡ is_sound c and is_member c m and eqb (length b) configuration_size)
      (λ a d e. rw e d) (λ e h. rw (e, h) (by_cases (eqb (length b) configuration_size) (λ k. rw k) (λ k. rw k)));
  setups = setup-done;
}

-- ---- a refusal writes nothing; what is loaded is what is lent ----

-- what is done, or leaves what was lent
load-in-kept : (x : Member) (t s : ℕ) (b : List ℕ) → is_ok (load_in x t s b).0 ≡ false → (load_in x t s b).1 ≡ b
load-in-kept x t s b =
    load-cases x t s b (λ v y. is_ok y.0 ≡ false → y.1 ≡ b)
    (λ i p. unless-cases (λ (y : EventAnswer × List ℕ). is_ok y.0 ≡ false → y.1 ≡ b) _ _ _ (λ u e. refl) (λ u e. never (sym e)))
    (λ p e. refl)

load-in-lent : (x : Member) (t s : ℕ) (b : List ℕ) → is_ok (load_in x t s b).0 ≡ true → (load_in x t s b).1 ≡ part_of x t s
load-in-lent x t s b =
    load-cases x t s b (λ v y. is_ok y.0 ≡ true → y.1 ≡ v)
    (λ i p. unless-cases (λ (y : EventAnswer × List ℕ). is_ok y.0 ≡ true → y.1 ≡ value_of x.values i) _ _ _ (λ u e. never e) (λ u e. refl))
    (λ p e. never e)

configuration-kept : (c : List ℕ) (m : ℕ) (l : List ℕ × ℕ) → is_ok (configuration_for c m l).0 ≡ false → (configuration_for c m l).1 ≡ l
unfolding configuration_for
configuration-kept c m (b, g) =
    unless-cases (λ (y : EventAnswer × (List ℕ × ℕ)). is_ok y.0 ≡ false → y.1 ≡ (b, g)) _ _ _ (λ u e. refl) (λ u e. never (sym e))

setup-kept : (c b : List ℕ) → (setup_of_card c b).0 ≡ 0 → (setup_of_card c b).1 ≡ b
unfolding setup_of_card
setup-kept c b =
    unless-cases (λ (y : ℕ × List ℕ). y.0 ≡ 0 → y.1 ≡ b) (is_sound c) _ _ (λ u e. refl)
    (λ u e. claims.unwritten b _ (counts_of c) _ _ _ _ (ap (λ n. (n, (written b (setup_of c).members (counts_of c) (setup_of c).gets (setup_of c).sets (setup_of c).features).1)) (sym e)))

pub refused-unwritten : RefusedUnwritten
unfolding load member_told configuration_told
refused-unwritten = record {
  loads = λ c m t s b.
      call-cases c m _ b (λ y. is_ok y.0 ≡ false → y.1 ≡ b) (λ a d e k. refl) (λ e h. load-in-kept (member_in c m) t (selector_of t s) b);
  members = λ c m l. call-cases c m _ l (λ y. is_ok y.0 ≡ false → y.1 ≡ l) (λ a d e k. refl) (λ e h k. never (sym k));
  configurations = λ c m l.
      call-cases c m _ l (λ y. is_ok y.0 ≡ false → y.1 ≡ l) (λ a d e k. refl) (λ e h. configuration-kept c m l);
  setups = setup-kept;
}

pub load-is-lent : LoadIsLent
unfolding load lent member_answer unless◌answer◌then◌
load-is-lent c m t s b =
    call-cases c m _ b (λ y. is_ok y.0 ≡ true → y.1 ≡ lent c m t s)
    (λ a d e k. never (sym d ∙ k))
    (λ e h k. rw (e, h) (load-in-lent (member_in c m) t (selector_of t s) b k))

-- ---- a load after a change ----

-- on a sound card d whose member m is y
module _ (d : List ℕ) (m : ℕ) (s : is_sound d ≡ true) (h : is_member d m ≡ true) (y : Member) (e : member_in d m ≡ y) where
  pub load-on : (t k : ℕ) (b : List ℕ) → load d m t k b ≡ load_in y t (selector_of t k) b
  unfolding load
  load-on t k b = rw (← e) (call-on d m _ b s h)

-- of a part that it has
load-in-at : (y : Member) (t s i : ℕ) (b : List ℕ) → place_of y.queues t s ≡ Some i → length b ≡ (row_at i).size
    → load_in y t s b ≡ (Ok tt, value_of y.values i)
unfolding load_in unless◌answer◌then◌
load-in-at y t s i b p l = rw (p, eq-eqb _ _ l)

-- the part of a store that is done
pub record Storable (q t s : ℕ) (x : List ℕ) : Type 0 where
  pub row : ℕ
  pub place : place_of q t s ≡ Some row
  pub later : 0 < row
  pub fits : length x ≡ (row_at row).size

storable-at : (q t s : ℕ) (x : List ℕ) → is_ok (storable q t s x) ≡ true → Storable q t s x
unfolding storable
storable-at q t s x = cases (place_of q t s) refl
  where
    Says : EventAnswer → Type 0
    Says a = is_ok a ≡ true → Storable q t s x

    cases : (p : Option ℕ) → place_of q t s ≡ p
        → Says (on_place p
        (λ i.
        unless ltb 0 i answer Err NoPart then
        unless eqb (length x) (row_at i).size answer Err WrongLength then
        unless value_allowed t x answer Err BadQueueSize then
        Ok tt)
        (Err NoPart))
    cases (Some i) e =
        unless-cases Says _ _ _ (λ u k. never k) λ u.
        unless-cases Says _ _ _ (λ v k. never k) λ v.
        unless-cases Says _ _ _ (λ w k. never k) λ w k.
        record { row = i; place = e; later = ltb-true 0 i u; fits = eqb-true _ _ v }
    cases None e = λ k. never k

-- the card after a store that is done, and the member in it
module _ (c : List ℕ) (m t s : ℕ) (x : List ℕ) where
  abbrev stored_member : Member
  stored_member = with_part (member_in c m) t (selector_of t s) x

  pub record StoredIn : Type 0 where
    pub sound : is_sound c ≡ true
    pub here : is_member c m ≡ true
    pub part : Storable (member_in c m).queues t (selector_of t s) x
    pub card : store c m t s x ≡ (Ok tt, with_member c m stored_member)

  stored-in : event_number (store c m t s x).0 ≡ 0 → StoredIn
  unfolding store store_in on_member if_done member_answer unless◌answer◌then◌
  stored-in n =
      by_cases (is_sound c)
      (λ e. by_cases (is_member c m)
      (λ h. by_cases (is_ok (storable (member_in c m).queues t (selector_of t s) x))
      (λ d. record { sound = e; here = h; part = storable-at _ t (selector_of t s) x d; card = rw (e, h) (if-done-on _ _ _ d) })
      (λ d. absurd (number-zero (storable (member_in c m).queues t (selector_of t s) x) d (rw (e, h, if-done-off _ _ _ d) at n))))
      (λ h. absurd (number-zero (Err NoMember) refl (rw (e, h) at n))))
      (λ e. absurd (number-zero (Err NotSound) refl (rw e at n)))

  module _ (z : StoredIn) where
    shaped : Shaped stored_member
    shaped =
        let w = (sound-member-in c (sound-of c z.sound) m z.here).shaped in
        shaped-values (member_in c m) w _ (stored-length _ t (selector_of t s) x (member_in c m).values ∙ w.long)

    pub stored-member : member_in (with_member c m stored_member) m ≡ stored_member
    stored-member = member-same c m stored_member (sound-has c (sound-of c z.sound) m z.here) shaped

    pub stored-sound : is_sound (with_member c m stored_member) ≡ true
    unfolding step
    stored-sound = ap (λ (y : EventAnswer × List ℕ). is_sound y.1) (sym z.card) ∙ stays-sound c (card_store m t s x) z.sound

    -- the value stands in its row
    pub stored-value : value_of stored_member.values z.part.row ≡ x
    stored-value =
        let p = z.part in
        let w = (sound-member-in c (sound-of c z.sound) m z.here).shaped in
        rw (stored_at _ t (selector_of t s) x (member_in c m).values p.row p.place p.later p.fits)
        (own_value p.row (place_found _ _ _ _ p.place).below x (member_in c m).values p.fits w.long)

pub load_stored : LoadStored
unfolding step number_of
load_stored c m t s x e b l =
    let z = stored-in c m t s x (ap number_of e) in
    rw z.card
    (load-on _ m (stored-sound c m t s x z) (rw setup-with-member z.here) _ (stored-member c m t s x z) t s b
    ∙ load-in-at _ t (selector_of t s) z.part.row b z.part.place (l ∙ z.part.fits)
    ∙ ap (λ v. (Ok tt, v)) (stored-value c m t s x z))

-- ---- after a list that is set ----

module _ (c : List ℕ) (m j : ℕ) (x : Settable c m j) (list : List ℕ) (short : length list ≤ longest_list) (r : ℕ) (h : 8 ≤ r) where
  abbrev is_good : Bool
  is_good = is_accepted (cause_of (member_in c m).queues (features_in (member_in c m)) list)

  set-refused : is_good ≡ false → (parts_set_of c m j list).0 ≡ (Err refusal.BadList)
  unfolding parts_set_of set_parts_of when◌then◌else◌ unless◌answer◌then◌
  set-refused a = rw (x.set_in_use, lt-ltb j _ (valid c m (settable c m j x) j Set x.set_object), x.set_object, x.stopped, a) refl

  -- the reply says whether it was accepted
  set-accepted : (set_list c m j list r).1 ≡ head_of (Ok tt) → is_good ≡ true
  unfolding head_of bytes
  set-accepted e =
      by_cases is_good (λ a. a) λ a.
      let k = small c m (settable c m j x) j (valid c m (settable c m j x) j Set x.set_object) in
      let p = respond-parts-set c m x.sound x.here (unmarked c m (settable c m j x) j Set x.set_object) r h j k list (omega arith) in
      let q : head_of (Err refusal.BadList) ≡ head_of (Ok tt) = ap head_of (sym (set-refused a)) ∙ ap (λ (y : List ℕ × List ℕ). y.1) (sym p) ∙ e in
      let z : ◌≡◌ {A = ℕ} 22 0 = ap (λ l. get_or l 0 0) q in
      absurd (omega arith)

-- the part that a load of n bytes is of
pub record Loadable (q t s n : ℕ) : Type 0 where
  pub row : ℕ
  pub place : place_of q t s ≡ Some row
  pub fits : n ≡ (row_at row).size

loadable-at : (q t s n : ℕ) → on_place (place_of q t s) (λ i. eqb n (row_at i).size) false ≡ true → Loadable q t s n
loadable-at q t s n = cases (place_of q t s) refl
  where
    cases : (p : Option ℕ) → place_of q t s ≡ p → on_place p (λ i. eqb n (row_at i).size) false ≡ true → Loadable q t s n
    cases (Some i) e k = record { row = i; place = e; fits = eqb-true _ _ k }
    cases None e k = never k

module _ (c : List ℕ) (m : ℕ) (s : is_sound c ≡ true) (h : is_member c m ≡ true) (t k : ℕ) (b : List ℕ) where
  loads-part : is_ok (load c m t k b).0 ≡ true → Loadable (member_in c m).queues t (selector_of t k) (length b)
  unfolding loadable
  loads-part d = loadable-at _ _ _ _ (both _ _ (sym (answered-exactly.loads c m t k b) ∙ d)).1

  load_value : (p : Loadable (member_in c m).queues t (selector_of t k) (length b)) → load c m t k b ≡ (Ok tt, value_of (member_in c m).values p.row)
  load_value p = load-on c m s h (member_in c m) refl t k b ∙ load-in-at (member_in c m) t (selector_of t k) p.row b p.place p.fits

-- in the member after the list stands the list's value, or the one before
module _ (c : List ℕ) (m j : ℕ) (x : Settable c m j) (list : List ℕ)
    (a : is_accepted (cause_of (member_in c m).queues (features_in (member_in c m)) list) ≡ true) (t s : ℕ) (b : List ℕ)
    (p : Loadable (member_in c m).queues t (selector_of t s) (length b)) where
  row-set : value_of (applied (member_in c m).queues (parts_of Parts list) (member_in c m).values) p.row
      ≡ value_or t (selector_of t s) (parts_of Parts list) (value_of (member_in c m).values p.row)
  row-set =
      let f = place_found _ _ _ _ p.place in
      let w = sound-member-in c (sound-of c x.sound) m x.here in
      let few : (member_in c m).queues < 5 = omega (arith, within-high 1 4 _ w.count) in
      rw (f.type-is, f.selector-is) at
      (applied-at _ p.row few f.below f.there (parts_of Parts list) (member_in c m).values w.shaped.long (accepts _ _ _ a))

  part-set : load_in (member_set c m j x list a) t (selector_of t s) b
      ≡ (Ok tt, value_or t (selector_of t s) (parts_of Parts list) (value_of (member_in c m).values p.row))
  unfolding member_set
  part-set = load-in-at _ t (selector_of t s) p.row b p.place p.fits ∙ ap (λ v. (Ok tt, v)) row-set

pub load_set : LoadSet
load_set c m j x list short r h e t s b d =
    let a = set-accepted c m j x list short r h e in
    let z = settable-after c m j x list a in
    let p = loads-part c m x.sound x.here t s b d in
    rw (set_is c m j x list a r h short, load_value c m x.sound x.here t s b p)
    (load-on (card_set c m j x list a) m z.sound z.here (member_set c m j x list a) (member-after c m j x list a) t s b
    ∙ part-set c m j x list a t s b p)
