-- A command that is obeyed is for a member that is not marked; and no command marks a member, nor takes its mark. Assumes
-- nothing.
use Rattle.std.specs.Prelude.{Result, Ok, Err}
use Rattle.protocol.specs.declared.Refusal.{Refusal}
use mathlib.Core.Path.{◌≡◌, refl, ap, sym, ◌∙◌}
use mathlib.Core.Bool.{true, false}
use mathlib.Core.List.{List}
use Prim.Native.Nat.{ℕ}
use Rattle.theory.proofs.Tests.{inside}
use Rattle.changes.proofs.Kept.{change-marked}
use Rattle.card.specs.Layout.{setup_of, is_member, member_in, is_marked}
use Rattle.card.proofs.MarkLaws.{marked-is, mark-with-use, mark-with-member}
use Rattle.card.proofs.SoundLaws.{Sound, sound-of, sound-has}
use Rattle.frame.specs.declared.Ask.{Ask}
use Rattle.frame.specs.declared.Ask.TheVariants.{QueryList, UseList, Read, Change}
use Rattle.admin.specs.Command.{perform, respond}
use Rattle.admin.proofs.Respond.{NamedIn, FactsIn, asked_of, card-cases}

-- r names m
pub named_here : (c r : List ℕ) (m : ℕ) → NamedIn c r m → is_member c m ≡ true
named_here c r m n = inside 1 _ m n.low n.high

pub named-unmarked : (c r : List ℕ) (m : ℕ) → NamedIn c r m → (member_in c m).marked ≡ false
named-unmarked c r m n = sym (marked-is c m (named_here c r m n)) ∙ ap (is_marked c) (sym n.target) ∙ n.unmarked

perform-mark : (c : List ℕ) → Sound c → (r : List ℕ) (k : ℕ) (a : Result Ask Refusal) → FactsIn c r a → is_marked (perform c r a).card k ≡ is_marked c k
unfolding perform
perform-mark c s r k (Err a) f = refl
perform-mark c s r k (Ok QueryList) f = refl
perform-mark c s r k (Ok (UseList mask)) f = mark-with-use c mask k
perform-mark c s r k (Ok (Read m op)) f = refl
perform-mark c s r k (Ok (Change m op)) f =
    mark-with-member c m _ (sound-has c s m (named_here c r m f.0))
    (change-marked (setup_of c).gets (setup_of c).sets _ op (member_in c m)) k

pub respond-mark : (c r : List ℕ) (room k : ℕ) → is_marked (respond c r room).0 k ≡ is_marked c k
respond-mark c r room k =
    card-cases c r room (λ d. is_marked d k ≡ is_marked c k) refl (λ s. perform-mark c (sound-of c s) r k _ (asked_of c r))
