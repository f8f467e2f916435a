-- What a wave makes known.
use Rattle.std.proofs.Common.{◌≡◌, inl, inr, ◌<◌, ℕ, zero, suc, Bool, true, false, List, [], ◌∷◌, length, map, Option, Some, None, refl, sym, ap, ◌∙◌, subst, arith}
use Rattle.std.specs.Prelude.{slice_index_or, if◌then◌else◌, ◌&&◌}
use Rattle.std.specs.Option.{option_and_then}
use Rattle.std.specs.List.{Contains}
use Rattle.cr_base.specs.declared.unit.Unit.{Unit as TranslationUnit}
use Rattle.cr_base.specs.declared.token.Place.{Place}
use Rattle.cr_base.specs.declared.cause.IllCause.{IllCause}
use Rattle.cr_base.specs.declared.cause.IllCause.TheVariants as cause
use Rattle.cr_world.specs.Outside.{Files}
use Rattle.cr_snapshot.specs.declared.known.KnownFile.{KnownFile}
use Rattle.cr_phase4.specs.Tasks.{Event, Ends}
use Rattle.cr_preproc.specs.Expanding.{ended_by}
use Rattle.cr_growth.specs.Growth.{with_wanted, wanted, wanted_by, is_none, are_settled, after_units, IsGrown, settles, passes, grows}
use Rattle.cr_unit_end.specs.declared.unit.UnitEnd.{UnitEnd}
use Rattle.cr_unit_end.specs.declared.unit.UnitEnd.TheVariants as ended
use Rattle.cr_unit_end.specs.UnitEnds.{IsUnitEnd}
use Rattle.cr_survey.specs.Batches.{LooksFor}
use Rattle.cr_survey.specs.Running.{AreEnds, Want, unit_of, wants_of, want_none, after_runs}
use Rattle.cr_survey.specs.declared.running.Running.{Running}

-- a unit that is ill-formed, or over a limit, wants no file
wanted_none : (c : IllCause) (p : Place) (events : List Event) → wanted_by (Ends (ended_by p c) events) ≡ []
wanted_none cause.LimitTokens p events = refl
wanted_none cause.LimitMacros p events = refl
wanted_none cause.LimitReading p events = refl
wanted_none cause.LimitIncludes p events = refl
wanted_none c p events = refl

-- what a unit wants by its end is what its preprocessing wants
wants_is : (files : List KnownFile) (u : TranslationUnit) (old new : List ℕ) (end : UnitEnd) → IsUnitEnd files u old new end → wants_of end ≡ wanted files u
wants_is files u old new (ended.Facts facts) (w, pre, b) = sym (ap wanted_by pre.2)
wants_is files u old new (ended.Wants paths) pre = sym (ap wanted_by pre.1)
wants_is files u old new (ended.Ill c p) (inl pre) = sym (ap wanted_by pre.1 ∙ wanted_none c p pre.0)
wants_is files u old new (ended.Ill c p) (inr (w, pre, b)) = sym (ap wanted_by pre.2)

pub settled_is : (files : List KnownFile) (old new : List ℕ) (rs : List Running) → AreEnds files old new rs → want_none rs ≡ are_settled files (map unit_of rs)
settled_is files old new [] ends = refl
settled_is files old new (r ∷ rs) ends =
    both (is_none (wants_of r.end)) (is_none (wanted files r.unit.now)) (want_none rs) (are_settled files (map unit_of rs)) (ap is_none (wants_is files r.unit.now old new r.end ends.0)) (settled_is files old new rs ends.1)
  where
    both : (a b c d : Bool) → a ≡ b → c ≡ d → (if a then c else false) ≡ (b && d)
    both true b c d e f = let is : true ≡ b = e in subst (λ x. c ≡ (x && d)) is f
    both false b c d e f = let is : false ≡ b = e in subst (λ x. false ≡ (x && d)) is refl

and_then_same : {A B : Type 0} (f g : A → Option B) (o : Option A) → ((x : A) → f x ≡ g x) → option_and_then f o ≡ option_and_then g o
and_then_same f g None same = refl
and_then_same f g (Some x) same = same x

pub after_is : (tree : Files) (wave : List KnownFile) (old new : List ℕ) (rs : List Running) (files : List KnownFile) → AreEnds wave old new rs → after_runs tree rs files ≡ after_units tree wave (map unit_of rs) files
after_is tree wave old new [] files ends = refl
after_is tree wave old new (r ∷ rs) files ends =
    ap (λ w. option_and_then (after_runs tree rs) (with_wanted tree w files)) (wants_is wave r.unit.now old new r.end ends.0)
    ∙ and_then_same (after_runs tree rs) (after_units tree wave (map unit_of rs)) (with_wanted tree (wanted wave r.unit.now) files) (λ more. after_is tree wave old new rs more ends.1)

-- one of the units has ended, and stands in its list
found_in : (files : List KnownFile) (old new : List ℕ) (rs : List Running) (r : Running) (i : ℕ) → i < length rs → slice_index_or rs i r ≡ r → AreEnds files old new rs → IsUnitEnd files r.unit.now old new r.end × Contains (map unit_of rs) (unit_of r)
found_in files old new [] r i lt at ends = absurd (omega (arith, lt))
found_in files old new (x ∷ rs) r zero lt at ends = (subst (λ (z : Running). IsUnitEnd files z.unit.now old new z.end) at ends.0, (0, omega arith, ap unit_of at))
found_in files old new (x ∷ rs) r (suc i) lt at ends =
    let h = found_in files old new rs r i (omega (arith, lt)) at ends.1 in
    (h.0, (suc h.1.0, omega (arith, h.1.1), h.1.2))

pub want_looks : (files : List KnownFile) (old new : List ℕ) (rs : List Running) (units : List TranslationUnit) (p : List ℕ) → AreEnds files old new rs → map unit_of rs ≡ units → Want rs p → LooksFor units p
want_looks files old new rs units p ends are (r, has, wants) =
    let h = found_in files old new rs r has.0 has.1 has.2 ends in
    (files, unit_of r, subst (λ l. Contains l (unit_of r)) are h.1, subst (λ l. Contains l p) (wants_is files r.unit.now old new r.end h.0) wants)

-- ---- growth, wave by wave

pub grown_settled : (tree : Files) (files : List KnownFile) (old new : List ℕ) (rs : List Running) (units : List TranslationUnit) → AreEnds files old new rs → map unit_of rs ≡ units → want_none rs ≡ true → IsGrown tree units files (Some files)
grown_settled tree files old new rs units ends are none = settles (ap (are_settled files) (sym are) ∙ sym (settled_is files old new rs ends) ∙ none)

pub grown_over : (tree : Files) (files : List KnownFile) (old new : List ℕ) (rs : List Running) (units : List TranslationUnit) → AreEnds files old new rs → map unit_of rs ≡ units → want_none rs ≡ false → after_runs tree rs files ≡ None → IsGrown tree units files None
grown_over tree files old new rs units ends are some over =
    passes (ap (are_settled files) (sym are) ∙ sym (settled_is files old new rs ends) ∙ some)
    (ap (λ us. after_units tree files us files) (sym are) ∙ sym (after_is tree files old new rs files ends) ∙ over)

pub grown_more : (tree : Files) (files more : List KnownFile) (old new : List ℕ) (rs : List Running) (units : List TranslationUnit) (end : Option (List KnownFile)) → AreEnds files old new rs → map unit_of rs ≡ units → want_none rs ≡ false → after_runs tree rs files ≡ Some more
    → IsGrown tree units more end → IsGrown tree units files end
grown_more tree files more old new rs units end ends are some is g =
    grows (ap (are_settled files) (sym are) ∙ sym (settled_is files old new rs ends) ∙ some)
    (ap (λ us. after_units tree files us files) (sym are) ∙ sym (after_is tree files old new rs files ends) ∙ is) g
