-- What the steps of a verdict show of a question. No contract of a public call cites it.
use Rattle.std.specs.Prelude.{ℕ, ◌≡◌, Bool, false}
use Rattle.cr_facts.specs.declared.fact.Fact.{Fact}
use Rattle.cr_facts.specs.declared.fact.Fact.TheVariants.{FileScope}
use Rattle.std.specs.Option.{option_map}
use Rattle.std.specs.BTreeSet as tree
use Rattle.cr_base.specs.declared.token.Place.{Place}
use Rattle.cr_base.specs.declared.key.Key.{Key}
use Rattle.cr_class.specs.RenameClass.{key_cmp, place_cmp}
use Rattle.cr_class.specs.ShownOrder.{shown_cmp}
use Rattle.cr_class.specs.Verdict.{is_in_class, is_renamed, IsLeast, IsClashPlace, Passes, Refuses, IsFirstRefusal, step_of}
use Rattle.cr_class.specs.declared.question.Question.{Question}
use Rattle.cr_class.specs.declared.question.Members.{Members}
use Rattle.cr_class.specs.declared.refusal.Refusal.{Refusal}
use Rattle.cr_class.specs.declared.refusal.Refusal.TheVariants as refusal

-- the sets are of the class of the question
abbrev pub HasMembers : Question → Members → Type 0
HasMembers q m =
    ((k : Key) → tree.contains key_cmp m.keys k ≡ is_in_class q.class.now k) × ((p : Place) → tree.contains place_cmp m.places p ≡ is_renamed q.class.now p)

-- no refusal of a step holds
abbrev pub PassesStep : Question → ℕ → Type 0
PassesStep q step = Passes q.facts.now q.class.now q.snapshot.now (option_map (λ r. r.now) q.root) q.old.now q.new.now step

-- a refusal of a step holds
abbrev pub RefusesAt : Question → ℕ → Refusal → Type 0
RefusesAt q step r = (step_of r ≡ step) × Refuses q.facts.now q.class.now q.snapshot.now (option_map (λ r. r.now) q.root) q.old.now q.new.now r

-- no place of the class is one of a clash
abbrev pub HasNoClash : Question → Type 0
HasNoClash q = (p : Place) → IsClashPlace q.facts.now q.class.now q.new.now p → ⊥

-- a capture at the least place of a clash
abbrev pub IsClash : Question → Refusal → Type 0
IsClash q r = (p : Place) × (r ≡ refusal.Capture p) × IsLeast (shown_cmp q.snapshot.now) (IsClashPlace q.facts.now q.class.now q.new.now) p

-- a fact puts a known key at file scope
abbrev pub scope_of : (Key → Bool) → Fact → Bool
scope_of known (FileScope k) = known k
scope_of known _ = false

-- the refusal is the first
abbrev pub RefusesFirst : Question → Refusal → Type 0
RefusesFirst q r = IsFirstRefusal q.facts.now q.class.now q.snapshot.now (option_map (λ r. r.now) q.root) q.old.now q.new.now r
