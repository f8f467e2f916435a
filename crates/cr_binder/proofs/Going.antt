-- What a call does to what is kept.
use Rattle.std.specs.Prelude.{unwrap_or}
use Rattle.std.proofs.Common.{◌≡◌, ℕ, Bool, false, Option, Some, List, [], ◌∷◌, refl, sym, ap, subst, ◌∙◌, length, zero, suc, arith}
use Rattle.cr_grammar.specs.declared.symbols.NonTerm.{NonTerm}
use Rattle.cr_grammar.specs.declared.symbols.Action.{Action}
use Rattle.cr_binding.specs.Source.{Source}
use Rattle.cr_binding.specs.State.{State, start}
use Rattle.cr_binding.specs.Binding.{goes_on}
use Rattle.cr_binding.specs.Actions.{passed}
use Rattle.cr_known.specs.Known.{Known, Frame, known_first, acted_by, known_close, known_close_on, with_token, with_action}
use Rattle.cr_known.specs.Nested.{Nested, Framed, nest_first, nest_closed, nest_closed_on, nest_passed, nest_acted}
use Rattle.cr_types.specs.declared.Part.{Part}
use Rattle.cr_known.specs.declared.nest.Leaves.{Leaves}
use Rattle.cr_acting.specs.declared.binding.Binding.{Binding}
use Rattle.cr_acting.specs.declared.ends.Kept.{Kept}
use Rattle.cr_acting.specs.Binding.{state_of, Change, Becomes, Leads, IsReady}
use Rattle.cr_acting.specs.Ends.{kept_by, values_by, ending}
use Rattle.cr_binder.specs.declared.binder.Binder.{Binder}
use Rattle.cr_binder.specs.Frames.{frames_by, AreKept, AreFor, AllFramesStay}
use Rattle.cr_binder.specs.Binder.{known_of, acted_alone, IsOf, Keeps, Goes}

abbrev pub binder : Nested → List Kept → Binding → Binder
binder n ks b = record { nest = n; frames = ks; binding = b }

-- what is known, with other open nodes and another state
abbrev known : Nested → List Frame → State → Known
known n fs s = record { node = n.node; first = n.first; shape = n.shape; childless = n.childless; above = fs; closed = n.closed; state = s }

module _ (t : Source) (n : Nested) (ks : List Kept) (b : Binding) (of : IsOf t (binder n ks b)) (stay : AllFramesStay) where
  -- what is bound changes, and the open nodes stay
  pub changes : (f : Change) (nb : Binding) → Becomes t b f nb → Keeps t (record (known_of (binder n ks b)) { state = f t (state_of b) }) (binder n ks nb)
  changes f nb x =
      let y = stay b.types nb.types b.operands nb.operands n.above ks x.grows of.sound.kept in
      record {
        known = ap (λ fs. known n fs (state_of nb)) y.same ∙ ap (known n (frames_by b.types b.operands n.above ks)) x.state;
        of = record { ready = x.ready; sound = record { whole = x.ready.whole; kept = y.kept; frames = of.sound.frames } };
      }

pub keeps_as : (t : Source) (k l : Known) (b : Binder) → k ≡ l → Keeps t k b → Keeps t l b
keeps_as t k l b same x = record { known = x.known ∙ same; of = x.of }

pub begun : (t : Source) (n : Nested) (ks : List Kept) (b : Binding) → n ≡ nest_first → ks ≡ [] → state_of b ≡ start → IsReady t b
    → Keeps t known_first (binder n ks b)
begun t n ks b first none same ready = record {
  known =
      ap (λ (m : Nested). known m (frames_by b.types b.operands m.above ks) (state_of b)) first
      ∙ ap (λ s. known nest_first [] s) same;
  of = record {
    ready = ready;
    sound = record {
      whole = ready.whole;
      kept = subst (λ zs. AreKept b.types b.operands zs) (sym none) tt;
      frames = ap (λ (m : Nested). length m.above) first ∙ sym (ap length none);
    };
  };
}

-- ---- the innermost node is closed

-- there is none above it
pub nothing_closes : (old : Binder) → old.frames ≡ [] → Goes old known_close old
nothing_closes old e t of = record {
  known = sym (none_above old.nest.above refl of.sound.frames);
  of = of;
}
  where
    none_above : (above : List Framed) → old.nest.above ≡ above → AreFor above old.frames → known_close (known_of old) ≡ known_of old
    none_above [] same for =
        ap (λ fs. known_close_on (known_of old) (frames_by old.binding.types old.binding.operands fs old.frames)) same
    none_above (f ∷ fs) same for = (let x : suc (length fs) ≡ zero = for ∙ ap length e in grind arith)

module _ (t : Source) (old : Binder) (of : IsOf t old) (stay : AllFramesStay) (k : Kept) (ks : List Kept) (frames : old.frames ≡ k ∷ ks) where
  closes_on : (above : List Framed) → old.nest.above ≡ above → AreFor above old.frames → (nb : Binding)
      → Becomes t old.binding (ending (nest_closed_on old.nest above).node old.nest.node old.nest.childless (kept_by old.binding.types k.saving) (values_by old.binding.types old.binding.operands k)) nb
      → Keeps t (known_close (known_of old)) (binder (nest_closed_on old.nest above) ks nb)
  closes_on [] same for nb x = (let y : zero ≡ suc (length ks) = for ∙ ap length frames in grind arith)
  closes_on (f ∷ fs) same for nb x =
      let kept = subst (λ zs. AreKept old.binding.types old.binding.operands zs) frames of.sound.kept in
      let y = stay old.binding.types nb.types old.binding.operands nb.operands fs ks x.grows kept.1 in
      let lengths : suc (length fs) ≡ suc (length ks) = for ∙ ap length frames in
      record {
        known =
            ap (λ zs. known (nest_closed_on old.nest (f ∷ fs)) zs (state_of nb)) y.same
            ∙ ap (known (nest_closed_on old.nest (f ∷ fs)) (frames_by old.binding.types old.binding.operands fs ks)) x.state
            ∙ sym (ap (λ zs. known_close_on (known_of old) (frames_by old.binding.types old.binding.operands (f ∷ fs) zs)) frames)
            ∙ sym (ap (λ zs. known_close_on (known_of old) (frames_by old.binding.types old.binding.operands zs old.frames)) same);
        of = record { ready = x.ready; sound = record { whole = x.ready.whole; kept = y.kept; frames = grind arith } };
      }

  pub closes : (nb : Binding)
      → Becomes t old.binding (ending (nest_closed old.nest).node old.nest.node old.nest.childless (kept_by old.binding.types k.saving) (values_by old.binding.types old.binding.operands k)) nb
      → Keeps t (known_close (known_of old)) (binder (nest_closed old.nest) ks nb)
  closes nb x = closes_on old.nest.above refl of.sound.frames nb x

-- the same, as the calls say it
pub closed : (old : Binder) (k : Kept) (ks : List Kept) → old.frames ≡ k ∷ ks → (n : Nested) → n ≡ nest_closed old.nest
    → (above node : NonTerm) (childless : Bool) → above ≡ n.node → node ≡ old.nest.node → childless ≡ old.nest.childless
    → (nb : Binding) → Leads old.binding (ending above node childless (kept_by old.binding.types k.saving) (values_by old.binding.types old.binding.operands k)) nb
    → AllFramesStay → Goes old known_close (binder n ks nb)
closed old k ks frames n nests above node childless upper inner is nb x stay t of =
    let f = ending above node childless (kept_by old.binding.types k.saving) (values_by old.binding.types old.binding.operands k) in
    let g = ending (nest_closed old.nest).node old.nest.node old.nest.childless (kept_by old.binding.types k.saving) (values_by old.binding.types old.binding.operands k) in
    let same : f t (state_of old.binding) ≡ g t (state_of old.binding) =
    ap (λ m. ending m node childless (kept_by old.binding.types k.saving) (values_by old.binding.types old.binding.operands k) t (state_of old.binding)) (upper ∙ ap (λ (m : Nested). m.node) nests)
    ∙ ap (λ m. ending (nest_closed old.nest).node m childless (kept_by old.binding.types k.saving) (values_by old.binding.types old.binding.operands k) t (state_of old.binding)) inner
    ∙ ap (λ m. ending (nest_closed old.nest).node old.nest.node m (kept_by old.binding.types k.saving) (values_by old.binding.types old.binding.operands k) t (state_of old.binding)) is
    in
    subst (λ m. Keeps t (known_close (known_of old)) (binder m ks nb)) (sym nests)
    (closes t old of stay k ks frames nb
    (record {
      state = x.state t of.ready.spelled ∙ same;
      ready = record { spelled = x.spelled t of.ready.spelled; whole = x.whole };
      grows = x.grows;
    }))

-- ---- a token and an action

-- an action, by what is known of the open nodes
abbrev pub acts_with : Source → Action → NonTerm → Option ℕ → List Part → Leaves → State → State
acts_with t x m first parts leaves s = goes_on s (acted_by t m (unwrap_or first s.last) x (record { parts = parts; leaves = leaves }) s)

pub acts_same : (t : Source) (x : Action) (old : Binder) (m : NonTerm) (first : Option ℕ) (parts : List Part) (leaves : Leaves)
    → m ≡ old.nest.node → first ≡ old.nest.first → parts ≡ old.nest.closed.parts → leaves ≡ old.nest.closed.leaves
    → record (known_of old) { state = acts_with t x m first parts leaves (state_of old.binding) } ≡ acted_alone t x (known_of old)
acts_same t x old m first parts leaves a b c d =
    ap (λ z. record (known_of old) { state = acts_with t x z first parts leaves (state_of old.binding) }) a
    ∙ ap (λ z. record (known_of old) { state = acts_with t x old.nest.node z parts leaves (state_of old.binding) }) b
    ∙ ap (λ z. record (known_of old) { state = acts_with t x old.nest.node old.nest.first z leaves (state_of old.binding) }) c
    ∙ ap (λ z. record (known_of old) { state = acts_with t x old.nest.node old.nest.first old.nest.closed.parts z (state_of old.binding) }) d

pub passes_same : (t : Source) (i : ℕ) (old : Binder) (m : NonTerm) → m ≡ old.nest.node
    → record (known_of old) { state = goes_on (state_of old.binding) (passed t m i (state_of old.binding)) }
    ≡ record (known_of old) { state = goes_on (state_of old.binding) (passed t old.nest.node i (state_of old.binding)) }
passes_same t i old m e = ap (λ z. record (known_of old) { state = goes_on (state_of old.binding) (passed t z i (state_of old.binding)) }) e

pub passes : (t : Source) (new : Binder) (i : ℕ) (k : Known) (n : Nested) → n ≡ nest_passed i new.nest → Keeps t k new
    → Keeps t (record k { first = Some (unwrap_or k.first i); shape = with_token i k.shape; childless = false }) (record new { nest = n })
passes t new i k n is x =
    subst (λ m. Keeps t (record k { first = Some (unwrap_or k.first i); shape = with_token i k.shape; childless = false }) (record new { nest = m })) (sym is)
    (record {
      known = ap (λ (z : Known). record z { first = Some (unwrap_or z.first i); shape = with_token i z.shape; childless = false }) x.known;
      of = record { ready = x.of.ready; sound = record { whole = x.of.sound.whole; kept = x.of.sound.kept; frames = x.of.sound.frames } };
    })

pub acts : (t : Source) (new : Binder) (a : Action) (k : Known) (n : Nested) → n ≡ nest_acted a new.nest → Keeps t k new
    → Keeps t (record k { shape = with_action a k.shape; childless = false }) (record new { nest = n })
acts t new a k n is x =
    subst (λ m. Keeps t (record k { shape = with_action a k.shape; childless = false }) (record new { nest = m })) (sym is)
    (record {
      known = ap (λ (z : Known). record z { shape = with_action a z.shape; childless = false }) x.known;
      of = record { ready = x.of.ready; sound = record { whole = x.of.sound.whole; kept = x.of.sound.kept; frames = x.of.sound.frames } };
    })
