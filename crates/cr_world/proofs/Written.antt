-- Pieces that are written one after another, and what a writer tells of them.
use Rattle.std.proofs.Common.{◌≡◌, ℕ, ◌-◌, List, [], ◌++◌, length, take, drop, sym, ap, ◌∙◌, subst, refl, append_assoc, append-nil, take-append-drop}
use Rattle.std.specs.Prelude.{Option, Some, None}
use Rattle.std.proofs.lemmas.List.{take_rest}
use Rattle.std.proofs.Math.Seq.{take-append_seam}
use Rattle.std.specs.Io.KnownBytes.{Appends, Keeps}
use Rattle.std.proofs.KnownBytes.{Appends-kept}
use Rattle.cr_world.specs.Outside.{WriteTells}
use Rattle.cr_world.specs.declared.outside.DoneEnd.TheVariants as done

-- n bytes more are gone from the rest
pub moves_front : (all front rest : List ℕ) (n : ℕ) → all ≡ front ++ rest → all ≡ (front ++ take n rest) ++ take (length rest - n) (drop n rest)
moves_front all front rest n e =
    e ∙ ap (λ l. front ++ l) (sym (take-append-drop n rest)) ∙ sym (append_assoc front (take n rest) (drop n rest)) ∙ ap (λ l. (front ++ take n rest) ++ l) (sym (take_rest rest n))

-- a front is the first bytes
front_taken : (all front rest : List ℕ) → all ≡ front ++ rest → front ≡ take (length front) all
front_taken all front rest e = sym (ap (take (length front)) e ∙ take-append_seam front rest)

tells_done : (before now : Option (List ℕ)) (piece : List ℕ) → Appends before now piece → WriteTells done.Done piece before now
tells_done None now piece h bytes e = absurd (cc)
tells_done (Some xs) None piece h bytes e = absurd h
tells_done (Some xs) (Some ys) piece h bytes e = let same : xs ≡ bytes = cc in (ys, refl, h ∙ ap (λ l. l ++ piece) same)

tells_failed : (before now : Option (List ℕ)) (piece : List ℕ) (n : ℕ) → Appends before now (take n piece) → WriteTells done.Failed piece before now
tells_failed None now piece n h bytes e = absurd (cc)
tells_failed (Some xs) None piece n h bytes e = absurd h
tells_failed (Some xs) (Some ys) piece n h bytes e = let same : xs ≡ bytes = cc in (ys, refl, (n, h ∙ ap (λ l. l ++ take n piece) same))

-- nothing was left, and what the writer holds was kept
pub wrote_all : (before mid now : Option (List ℕ)) (piece gone rest : List ℕ) → piece ≡ gone ++ rest → rest ≡ [] → Appends before mid gone → Keeps mid now → WriteTells done.Done piece before now
wrote_all before mid now piece gone rest e none h k =
    let whole : piece ≡ gone = e ∙ ap (λ l. gone ++ l) none ∙ append-nil gone in
    tells_done before now piece (subst (Appends before now) (sym whole) (Appends-kept before mid now gone h k))

-- a front was written, and what the writer holds was kept
pub wrote_front : (before mid now : Option (List ℕ)) (piece gone rest : List ℕ) → piece ≡ gone ++ rest → Appends before mid gone → Keeps mid now → WriteTells done.Failed piece before now
wrote_front before mid now piece gone rest e h k =
    tells_failed before now piece (length gone) (subst (Appends before now) (front_taken piece gone rest e) (Appends-kept before mid now gone h k))
