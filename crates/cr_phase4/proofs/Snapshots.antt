-- Snapshots of which more is known.
use Rattle.std.proofs.Common.{◌≡◌, ◌⊎◌, inl, inr, ℕ, ◌+◌, Bool, true, false, cond, List, [], ◌∷◌, ◌++◌, refl, ap, sym, ◌∙◌, Some, None, Option}
use Rattle.std.specs.Prelude.{bytes_eq, not}
use Rattle.cr_snapshot.specs.declared.known.KnownFile.{KnownFile}
use Rattle.cr_snapshot.specs.Files.{Finding, Present, Absent, Unknown, told, finding_from, finding, StaysKnown}
use Rattle.cr_macros.specs.Tokens.{Text}
use Rattle.cr_phase4.specs.Search.{number_among}
use Rattle.cr_phase4.specs.PreprocessingRun.{SnapshotsAgree}

told_known : (n : ℕ) (found : Option (List ℕ)) → ¬ (told n found ≡ Unknown)
told_known n None e = cc
told_known n (Some bytes) e = cc

same_number : (path : Text) (n : ℕ) (files : List KnownFile) (file : KnownFile) → ¬ (finding_from n path files ≡ Unknown) → number_among path (files ++ file ∷ []) ≡ number_among path files
same_number path n [] file h = absurd (h refl)
same_number path n (f ∷ files) file h = go (bytes_eq path f.path) h (same_number path (n + 1) files file) where
  go : (b : Bool) → ¬ (cond b (told n f.found) (finding_from (n + 1) path files) ≡ Unknown) → (¬ (finding_from (n + 1) path files ≡ Unknown) → number_among path (files ++ file ∷ []) ≡ number_among path files)
      → cond (not b) (1 + number_among path (files ++ file ∷ [])) 0 ≡ cond (not b) (1 + number_among path files) 0
  go true k later = refl
  go false k later = ap (λ x. 1 + x) (later k)

pub snapshots_agree : StaysKnown → SnapshotsAgree
snapshots_agree stays files file = record { known = λ path. go path (finding path files) refl } where
  is_known : (path : Text) (f : Finding) → finding path files ≡ f → ¬ (f ≡ Unknown) → (finding path (files ++ file ∷ []) ≡ finding path files) × (number_among path (files ++ file ∷ []) ≡ number_among path files)
  is_known path f e h = let k : ¬ (finding path files ≡ Unknown) = λ u. h (sym e ∙ u) in (stays path files file k, same_number path 0 files file k)

  go : (path : Text) (f : Finding) → finding path files ≡ f → (finding path files ≡ Unknown) ⊎ ((finding path (files ++ file ∷ []) ≡ finding path files) × (number_among path (files ++ file ∷ []) ≡ number_among path files))
  go path (Present n bytes) e = inr (is_known path (Present n bytes) e (λ u. cc))
  go path Absent e = inr (is_known path Absent e (λ u. cc))
  go path Unknown e = inl e
