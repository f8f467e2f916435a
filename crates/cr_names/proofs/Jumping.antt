-- That jumps are bound one after another.
use Rattle.std.proofs.Common.{◌≡◌, ℕ, zero, suc, ◌+◌, ◌<◌, ◌≤◌, if◌then◌else◌, Some, None, List, [], ◌∷◌, length, drop, get_or, add-one, refl, sym, ap, ◌∙◌, arith}
use Rattle.std.specs.Prelude.{is_some}
use Rattle.std.proofs.Math.Seq.{drop-cons}
use Rattle.cr_base.specs.declared.token.Name.{Name}
use Rattle.cr_base.specs.declared.token.Tok.{Tok}
use Rattle.cr_base.specs.declared.cause.IllCause.{IllCause}
use Rattle.cr_base.specs.declared.cause.IllCause.TheVariants as cause
use Rattle.cr_scope.specs.declared.Space.TheVariants as space
use Rattle.cr_types.specs.Types.{Table}
use Rattle.cr_binding.specs.Source.{Source}
use Rattle.cr_binding.specs.State.{GoesTo, State}
use Rattle.cr_binding.specs.Declaring.{used, meaning_here}
use Rattle.cr_binding.specs.Scoping.{jump_to, unless_failed, all_jumps}
use Rattle.cr_names.specs.declared.fault.BindFault.{BindFault}
use Rattle.cr_names.specs.declared.fault.BindFault.TheVariants as fault
use Rattle.cr_names.specs.Kept.{KnownNames, IsOf, AreSpelled}
use Rattle.cr_names.specs.Names.{with_names, HasTokens, IsNamed, Does, Moves, Fails, Refuses, IsMeaning, jumping}

-- ---- one

module _ (x : KnownNames) (i : ℕ) (name : Name) where
  pub jumped : (y : KnownNames) (k : ℕ) → IsMeaning x space.Label name (Some k) → Moves x (used (GoesTo i k)) y → (t : Table) → Does t (IsNamed i name) x (jumping i) y
  jumped y k means m t = record {
    state = λ source s named sound spelled.
        (m t).state source s tt sound spelled ∙ ap (λ r. jump_to r i (with_names t x s)) (sym (means t source s i named spelled));
    spelled = λ source named h. (m t).spelled source tt h;
    typed = (m t).typed;
  }

  pub jumps_nowhere : IsMeaning x space.Label name None → Fails (IsNamed i name) x (λ t. jumping i) cause.Unresolved i
  jumps_nowhere means t source s named sound spelled = ap (λ r. (jump_to r i (with_names t x s)).fault) (means t source s i named spelled)

-- ---- all of them

unless_sound : (s s' : State) → s.fault ≡ None → unless_failed s s' ≡ s'
unless_sound s s' e = ap (λ f. if is_some f then s else s') e

unless_faulty : (s s' : State) (e : IllCause × ℕ) → s.fault ≡ Some e → unless_failed s s' ≡ s
unless_faulty s s' e h = ap (λ f. if is_some f then s else s') h

jumps_failed : (t : Source) (is : List ℕ) (s : State) (e : IllCause × ℕ) → s.fault ≡ Some e → (all_jumps t is s).fault ≡ Some e
jumps_failed t [] s e h = h
jumps_failed t (i ∷ is) s e h =
    ap (λ z. (all_jumps t is z).fault) (unless_faulty s (jump_to (meaning_here t space.Label i s) i s) e h) ∙ jumps_failed t is s e h

-- the first k of them are bound
pub record AreBound (tokens : List Tok) (jumps : List ℕ) (old new : KnownNames) (k : ℕ) : Type 0 where
  pub state : (t : Table) (source : Source) (s : State) → HasTokens tokens source → s.fault ≡ None → AreSpelled source old
      → all_jumps source (drop k jumps) (with_names t new s) ≡ all_jumps source jumps (with_names t old s)
  pub spelled : (source : Source) → HasTokens tokens source → AreSpelled source old → AreSpelled source new
  pub typed : (t : Table) → IsOf t old → IsOf t new

pub none_bound : (tokens : List Tok) (jumps : List ℕ) (x : KnownNames) → AreBound tokens jumps x x 0
none_bound tokens jumps x = record { state = λ t source s p sound spelled. refl; spelled = λ source p h. h; typed = λ t h. h }

module _ (tokens : List Tok) (jumps : List ℕ) (old mid : KnownNames) (k : ℕ) (so_far : AreBound tokens jumps old mid k) (i : ℕ) (name : Name)
    (rest : drop k jumps ≡ i ∷ drop (k + 1) jumps) (named : (t : Source) → HasTokens tokens t → IsNamed i name t) where
  pub one_more : (new : KnownNames) → ((t : Table) → Does t (IsNamed i name) mid (jumping i) new) → AreBound tokens jumps old new (k + 1)
  one_more new does = record {
    state = λ t source s p sound spelled.
        ap (all_jumps source (drop (k + 1) jumps))
        ((does t).state source s (named source p) sound (so_far.spelled source p spelled)
        ∙ sym (unless_sound (with_names t mid s) (jumping i source (with_names t mid s)) sound))
        ∙ ap (λ is. all_jumps source is (with_names t mid s)) (sym rest)
        ∙ so_far.state t source s p sound spelled;
    spelled = λ source p h. (does (record { types = []; records = [] })).spelled source (named source p) (so_far.spelled source p h);
    typed = λ t h. (does t).typed (so_far.typed t h);
  }

  pub one_fails : (f : BindFault) → Refuses f (Fails (IsNamed i name) mid (λ t. jumping i)) → Refuses f (Fails (HasTokens tokens) old (λ t source. all_jumps source jumps))
  one_fails fault.OutOfMemory h = tt
  one_fails (fault.Ill c n) h = λ t source s p sound spelled.
      ap (λ z. z.fault) (sym (so_far.state t source s p sound spelled))
      ∙ ap (λ is. (all_jumps source is (with_names t mid s)).fault) rest
      ∙ ap (λ z. (all_jumps source (drop (k + 1) jumps) z).fault) (unless_sound (with_names t mid s) (jumping i source (with_names t mid s)) sound)
      ∙ jumps_failed source (drop (k + 1) jumps) (jumping i source (with_names t mid s)) (c, n) (h t source s (named source p) sound (so_far.spelled source p spelled))

pub all_bound : (tokens : List Tok) (jumps : List ℕ) (old new : KnownNames) (k : ℕ) → drop k jumps ≡ [] → AreBound tokens jumps old new k
    → (t : Table) → Does t (HasTokens tokens) old (λ source. all_jumps source jumps) new
all_bound tokens jumps old new k none h t = record {
  state = λ source s p sound spelled. ap (λ is. all_jumps source is (with_names t new s)) (sym none) ∙ h.state t source s p sound spelled;
  spelled = h.spelled;
  typed = h.typed t;
}

pub next_jump : (jumps : List ℕ) (k : ℕ) → k < length jumps → drop k jumps ≡ get_or jumps k 0 ∷ drop (k + 1) jumps
next_jump jumps k h = rw (add-one, drop-cons jumps k 0)

pub no_jump : (jumps : List ℕ) (k : ℕ) → length jumps ≤ k → drop k jumps ≡ []
no_jump [] zero h = refl
no_jump [] (suc k) h = refl
no_jump (i ∷ is) zero h = absurd (omega (arith, h))
no_jump (i ∷ is) (suc k) h = no_jump is k (omega (arith, h))
