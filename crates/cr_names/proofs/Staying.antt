-- That the same names are seen as types and paths are added.
use Rattle.std.proofs.Common.{◌≡◌, ℕ, List, [], ◌∷◌, ◌++◌, length, map, refl, ap}
use Rattle.cr_scope.specs.Declarations.{Entry}
use Rattle.cr_types.specs.declared.TypeNo.{TypeNo}
use Rattle.cr_types.specs.Types.{Table, Keeps, type_at}
use Rattle.cr_paths.specs.Paths.{Grows}
use Rattle.cr_declared.specs.declared.rows.UseRow.{UseRow}
use Rattle.cr_declared.specs.declared.rows.UseRow.TheVariants as row
use Rattle.cr_binding.specs.Source.{Source}
use Rattle.cr_binding.specs.State.{LookedUp, WasAsked}
use Rattle.cr_names.specs.Kept.{IsPlaced, ArePlaced, AreBare, AreGiven, AreSpelledBy}
use Rattle.cr_names.specs.Names.{declarations_by, use_by, NamesStay}

-- ---- types

declarations_stay : (t u : Table) → Keeps t u → (es : List Entry) (ns : List TypeNo) → AreGiven t ns → declarations_by u es ns ≡ declarations_by t es ns
declarations_stay t u keeps [] ns w = refl
declarations_stay t u keeps (e ∷ es) [] w = refl
declarations_stay t u keeps (e ∷ es) (n ∷ ns) w =
    let h : type_at u n ≡ type_at t n = (keeps.types n w.0).2 in
    let r : declarations_by u es ns ≡ declarations_by t es ns = declarations_stay t u keeps es ns w.1 in
    λ j. (record { path = e.path; space = e.decl.space; token = e.decl.token; kind = e.decl.kind; linkage = e.decl.linkage; type = h j }) ∷ r j

given_stay : (t u : Table) → Keeps t u → (ns : List TypeNo) → AreGiven t ns → AreGiven u ns
given_stay t u keeps [] w = tt
given_stay t u keeps (n ∷ ns) w = ((keeps.types n w.0).0, given_stay t u keeps ns w.1)

pub names_stay : NamesStay
names_stay t u x keeps of = (
  given_stay t u keeps x.types_of of,
  λ s j. record s {
    declarations = declarations_stay t u keeps x.declared.entries x.types_of of j;
    uses = map (use_by x.declared.paths) x.uses;
    hidden = x.hidden;
    scopes = x.declared.scopes;
    present = x.declared.present;
  },
)

pub given_more : (t : Table) (ns : List TypeNo) (n : TypeNo) → AreGiven t ns → AreGiven t (n ∷ []) → AreGiven t (ns ++ n ∷ [])
given_more t [] n h g = g
given_more t (m ∷ ns) n h g = (h.0, given_more t ns n h.1 g)

-- ---- paths

module _ (old new : List (List ℕ)) (grows : Grows old new) where
  use_stays : (x : UseRow) → IsPlaced (length old) x → use_by new x ≡ use_by old x
  use_stays (row.LookedUp sp token place before denoted) h = ap (λ p. LookedUp sp token p before denoted) (grows place h).1
  use_stays (row.WasAsked token place before answer) h = ap (λ p. WasAsked token p before answer) (grows place h).1
  use_stays (row.GoesTo token label) h = refl
  use_stays (row.Selects token member) h = refl
  use_stays (row.IsBuiltIn token) h = refl
  use_stays (row.IsParameter token) h = refl

  pub uses_stay : (xs : List UseRow) → ArePlaced (length old) xs → map (use_by new) xs ≡ map (use_by old) xs
  uses_stay [] h = refl
  uses_stay (x ∷ xs) h = (let e = use_stays x h.0 in let r = uses_stay xs h.1 in λ j. e j ∷ r j)

  placed_stays : (x : UseRow) → IsPlaced (length old) x → IsPlaced (length new) x
  placed_stays (row.LookedUp sp token place before denoted) h = (grows place h).0
  placed_stays (row.WasAsked token place before answer) h = (grows place h).0
  placed_stays (row.GoesTo token label) h = tt
  placed_stays (row.Selects token member) h = tt
  placed_stays (row.IsBuiltIn token) h = tt
  placed_stays (row.IsParameter token) h = tt

  pub placed_stay : (xs : List UseRow) → ArePlaced (length old) xs → ArePlaced (length new) xs
  placed_stay [] h = tt
  placed_stay (x ∷ xs) h = (placed_stays x h.0, placed_stay xs h.1)

pub placed_more : (n : ℕ) (xs : List UseRow) (x : UseRow) → ArePlaced n xs → IsPlaced n x → ArePlaced n (xs ++ x ∷ [])
placed_more n [] x h g = (g, tt)
placed_more n (y ∷ xs) x h g = (h.0, placed_more n xs x h.1 g)

-- ---- one more declaration

pub bare_more : (es : List Entry) (e : Entry) → AreBare es → e.decl.note ≡ 0 → AreBare (es ++ e ∷ [])
bare_more [] e h g = (g, tt)
bare_more (x ∷ es) e h g = (h.0, bare_more es e h.1 g)

pub spelled_more : (source : Source) (es : List Entry) (e : Entry) → AreSpelledBy source es → AreSpelledBy source (e ∷ []) → AreSpelledBy source (es ++ e ∷ [])
spelled_more source [] e h g = g
spelled_more source (x ∷ es) e h g = (h.0, spelled_more source es e h.1 g)
