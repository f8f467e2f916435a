-- A unit that has ended ends so where more files are known.
use Rattle.std.proofs.Common.{◌≡◌, ◌⊎◌, ℕ, List, refl, sym, ap, subst, ◌∙◌, inl, inr}
use Rattle.cr_base.specs.declared.unit.Unit.{Unit}
use Rattle.cr_base.specs.declared.cause.IllCause.{IllCause}
use Rattle.cr_base.specs.declared.cause.IllCause.TheVariants as cause
use Rattle.cr_base.specs.declared.token.Place.{Place}
use Rattle.cr_macros.specs.Tokens.{Text}
use Rattle.cr_snapshot.specs.Files.{Finding, Unknown, finding}
use Rattle.cr_snapshot.specs.declared.known.KnownFile.{KnownFile}
use Rattle.cr_phase4.specs.Tasks.{Nothing, Done, State, Event, Reply, Goes, Ends, End, Ill, Over, Needs}
use Rattle.cr_phase4.specs.Search.{world_of}
use Rattle.cr_phase4.specs.Preprocessing.{preprocessed}
use Rattle.cr_phase4.specs.PreprocessingRun.{Agrees, IsLarger, IsLargerEnd, GoesOn}
use Rattle.cr_preproc.specs.Expanding.{ended_by}
use Rattle.cr_unit.specs.Preprocessing.{IsPreprocessed}
use Rattle.cr_unit.specs.Converting.{end_by, end_place, AreUnitTokens}
use Rattle.cr_unit.specs.declared.preprocessing.Whole.{Whole}
use Rattle.cr_unit.specs.declared.preprocessing.Preprocessed.TheVariants as preprocessed_as
use Rattle.cr_unit_end.specs.declared.unit.UnitEnd.{UnitEnd}
use Rattle.cr_unit_end.specs.declared.unit.UnitEnd.TheVariants as ended
use Rattle.cr_unit_end.specs.UnitEnds.{IsUnitEnd, IsWholeEnd, IsBehind}
use Rattle.cr_unit_end_law.specs.Telling.{HasEnded, EndedUnitsStay}
use Rattle.cr_unit_end_law.proofs.Told.{IsPresent, main_is_there}

-- no cause of an ill-formed unit wants files
ill_stays : (c : IllCause) (p : Place) (events : List Event) (r : Reply Nothing) → IsLargerEnd (ended_by p c) events r → r ≡ Ends (ended_by p c) events
ill_stays cause.LimitTokens p events r h = h
ill_stays cause.LimitMacros p events r h = h
ill_stays cause.LimitReading p events r h = h
ill_stays cause.LimitIncludes p events r h = h
ill_stays c p events r h = h

there_is_known : (f : Finding) → IsPresent f → f ≡ Unknown → ⊥
there_is_known f (n, bytes, is) e = cc

module _ (law : GoesOn) (files more : List KnownFile) (u : Unit) (old new : Text) (agrees : Agrees (world_of files) (world_of more)) where
  larger : IsLarger (preprocessed (world_of files) u) (preprocessed (world_of more) u)
  larger = law (world_of files) (world_of more) u agrees

  same_main : IsPresent (finding u.main files) → finding u.main more ≡ finding u.main files
  same_main there = by (agrees.known u.main)
    where
      by : (finding u.main files ≡ Unknown) ⊎ ((finding u.main more ≡ finding u.main files) × ((world_of more).number u.main ≡ (world_of files).number u.main)) → finding u.main more ≡ finding u.main files
      by (inl h) = absurd (there_is_known (finding u.main files) there h)
      by (inr h) = h.0

  behind : (w : Whole) (end : UnitEnd) → finding u.main more ≡ finding u.main files → IsBehind files u old new w end → IsBehind more u old new w end
  behind w end same (inl (t, made, rest)) = inl (t, subst (λ p. AreUnitTokens w.names w.tokens.items p old new t) (ap end_by (sym same)) made, rest)
  behind w end same (inr x) = inr x

  whole : (end : UnitEnd) → IsWholeEnd files u old new end → IsWholeEnd more u old new end
  whole end (w, pre, b) =
      let goes : preprocessed (world_of more) u ≡ Goes Done pre.0 pre.1 = subst (λ r. IsLarger r (preprocessed (world_of more) u)) pre.2 larger in
      (w, (pre.0, pre.1, goes, pre.3), behind w end (same_main (main_is_there (world_of files) u pre.0 pre.1 pre.2)) b)

  pub stays : (end : UnitEnd) → HasEnded end → IsUnitEnd files u old new end → IsUnitEnd more u old new end
  stays (ended.Facts facts) h x = whole (ended.Facts facts) x
  stays (ended.Wants paths) h x = absurd h
  stays (ended.Ill c p) h (inl pre) =
      inl (pre.0, ill_stays c p pre.0 (preprocessed (world_of more) u) (subst (λ r. IsLarger r (preprocessed (world_of more) u)) pre.1 larger))
  stays (ended.Ill c p) h (inr x) = inr (whole (ended.Ill c p) x)
