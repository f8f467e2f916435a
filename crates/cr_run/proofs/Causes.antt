-- Causes of read faults, and reads in turn.
use Rattle.std.proofs.Common.{ℕ, ◌≤◌, List, Option, Result, refl, arith, ◌∙◌}
use Rattle.std.specs.Prelude.{Ok, Err}
use Rattle.cr_world.specs.Outside.{Files, Counts, Rose}
use Rattle.cr_run.specs.Reading.{HasReadCause, ReadsOnly}
use Rattle.cr_run.specs.declared.refusal.Refusal.{Refusal}
use Rattle.cr_run.specs.declared.refusal.Refusal.TheVariants as refusal

-- a cause for one reason is one for another that it gives
pub cause_more : (V W : Type 0) (P Q : List ℕ → Type 0) (r : Refusal) → ((path : List ℕ) → P path → Q path) → HasReadCause {V = V} P (Err r) → HasReadCause {V = W} Q (Err r)
cause_more V W P Q (refusal.Usage word) more h = tt
cause_more V W P Q (refusal.Database text) more h = tt
cause_more V W P Q (refusal.ReadFault path) more h = more path h
cause_more V W P Q refusal.NoSymbol more h = tt
cause_more V W P Q (refusal.Reserved name) more h = tt
cause_more V W P Q (refusal.Spelling place) more h = tt
cause_more V W P Q refusal.OutOfMemory more h = tt
cause_more V W P Q refusal.LimitUnits more h = tt
cause_more V W P Q refusal.LimitFiles more h = tt
cause_more V W P Q (refusal.UnbuiltOption option) more h = tt
cause_more V W P Q (refusal.Unbuilt path) more h = tt

pub result_cause : {V : Type 0} (P Q : List ℕ → Type 0) (r : Result V Refusal) → ((path : List ℕ) → P path → Q path) → HasReadCause P r → HasReadCause Q r
result_cause P Q (Ok v) more h = tt
result_cause {V} P Q (Err r) more h = cause_more V V P Q r more h

pub rose_earlier : (a b c : ℕ) → a ≤ b → Rose b c → Rose a c
rose_earlier a b c h r = omega arith

pub rose_later : (a b c : ℕ) → Rose a b → b ≤ c → Rose a c
rose_later a b c r h = omega arith

pub reads_none : (f : Option Files) (r p : Counts) (w : List (List ℕ)) → ReadsOnly f f r r p p w w
reads_none f r p w = record { same = refl; later = λ path. omega arith; stay = λ path. refl; none = refl }

pub reads_both : (f f' f'' : Option Files) (r r' r'' p p' p'' : Counts) (w w' w'' : List (List ℕ)) → ReadsOnly f f' r r' p p' w w' → ReadsOnly f' f'' r' r'' p' p'' w' w'' → ReadsOnly f f'' r r'' p p'' w w''
reads_both f f' f'' r r' r'' p p' p'' w w' w'' one two = record {
  same = two.same ∙ one.same;
  later = λ path. let a = one.later path in let b = two.later path in omega (arith, a, b);
  stay = λ path. two.stay path ∙ one.stay path;
  none = two.none ∙ one.none;
}
