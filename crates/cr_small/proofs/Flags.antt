-- Denotations of one entity have one linkage.
use Rattle.std.proofs.Common.{◌≡◌, ℕ, ◌+◌, Bool, true, false, not, ◌&&◌, ◌||◌, List, [], ◌∷◌, ◌++◌, Option, Some, None, refl, sym, ap, ◌∙◌, subst, zero, suc, slice_get, arith}
use Rattle.std.specs.Prelude.{if◌then◌else◌, bytes_eq}
use Rattle.std.specs.Option.{option_map, option_or, option_and_then}
use Rattle.cr_lex.specs.Lexing.{Token}
use Rattle.cr_small.specs.Declarations.{Entry, lookup, is_linked, first_linked, token_or, entity_of, both_or_neither, is_second, clashes, is_redeclared}
use Rattle.cr_small.specs.Resolution.{Bindings, Bound, bound, resolved, declared, denotation, entry_at, mentioned}
use Rattle.cr_small.specs.Keys.{has_external_linkage}
use Rattle.cr_small.specs.declared.grammar.Part.{Part}
use Rattle.cr_small.specs.declared.grammar.Part.TheVariants as part
use Rattle.cr_small.specs.declared.binder.Denotation.{Denotation}
use Rattle.cr_small.proofs.Flat.{agreed, both, bytes_eq-refl, find-any, find-push, find-Some}
use Rattle.cr_small.proofs.Names.{All, All-push, All-find, All-lookup}

abbrev pub flag : Option Denotation → Bool
flag None = false
flag (Some d) = has_external_linkage d

-- whether what the token with a number denotes has external linkage
abbrev pub flag_at : List (Option Denotation) → ℕ → Bool
flag_at [] k = false
flag_at (d ∷ ds) zero = flag d
flag_at (d ∷ ds) (suc k) = flag_at ds k

abbrev pub is_externally_linked : Entry → Bool
is_externally_linked e = e.linked && not e.internal

-- the first declaration of the entry's name with linkage has its linkage, if the entry has one
abbrev pub Agrees : List Entry → Entry → Type 0
Agrees es e = e.linked ≡ true → (w : Entry) × (first_linked e.name es ≡ Some w) × (w.internal ≡ e.internal)

agrees-push : (es : List Entry) (e y : Entry) → Agrees es y → Agrees (es ++ e ∷ []) y
agrees-push es e y h x = let w = h x in (w.0, find-push (is_linked y.name) es e ∙ ap (λ o. option_or o (if is_linked y.name e then Some e else None)) w.1, w.2)

All-agrees-push : (es : List Entry) (e : Entry) (ys : List Entry) → All (Agrees es) ys → All (Agrees (es ++ e ∷ [])) ys
All-agrees-push es e [] h = tt
All-agrees-push es e (y ∷ ys) h = (agrees-push es e y h.0, All-agrees-push es e ys h.1)

-- a declaration that doesn't clash with one of its name has its linkage
no-clash : (e w : Entry) → e.linked ≡ true → is_linked e.name w ≡ true → clashes e w ≡ false → w.internal ≡ e.internal
no-clash e w x h clash =
    let k = both_or_neither e.internal w.internal in
    let t = both w.linked (bytes_eq w.name e.name) h in
    let none : (is_second e w || not k) ≡ false =
    sym (ap (λ n. n && (is_second e w || ((e.linked && w.linked) && not k))) t.1 ∙ ap (λ l. is_second e w || ((l && w.linked) && not k)) x ∙ ap (λ l. is_second e w || (l && not k)) t.0) ∙ clash in
    sym (agreed e.internal w.internal (by (is_second e w) k none))
  where
    by : (s k : Bool) → (s || not k) ≡ false → k ≡ true
    by true k g = let bad : ⊥ = cc in absurd bad
    by false true g = refl
    by false false g = let bad : ⊥ = cc in absurd bad

agrees-self : (es : List Entry) (e : Entry) → is_redeclared es e ≡ false → Agrees (es ++ e ∷ []) e
agrees-self es e free x = by (first_linked e.name es) refl
  where
    grown : (o : Option Entry) → first_linked e.name es ≡ o → first_linked e.name (es ++ e ∷ []) ≡ option_or o (if is_linked e.name e then Some e else None)
    grown o f = find-push (is_linked e.name) es e ∙ ap (λ o. option_or o (if is_linked e.name e then Some e else None)) f

    own : is_linked e.name e ≡ true
    own = ap (λ l. l && bytes_eq e.name e.name) x ∙ bytes_eq-refl e.name

    at : (w : Entry) → first_linked e.name es ≡ Some w → (c : Bool) → clashes e w ≡ c → w.internal ≡ e.internal
    at w f true c = let no : false ≡ true = sym free ∙ find-any (is_linked e.name) (clashes e) es w f c in let bad : ⊥ = cc in absurd bad
    at w f false c = no-clash e w x (find-Some (is_linked e.name) es w f) c

    by : (o : Option Entry) → first_linked e.name es ≡ o → (w : Entry) × (first_linked e.name (es ++ e ∷ []) ≡ Some w) × (w.internal ≡ e.internal)
    by None f = (e, grown None f ∙ ap (λ b. if b then Some e else None) own, refl)
    by (Some w) f = (w, grown (Some w) f, at w f (clashes e w) refl)

module _ (g : ℕ → Bool) where
  abbrev pub IsFlagged : Entry → Type 0
  IsFlagged e = g e.token ≡ is_externally_linked e

  abbrev pub FlagIf : Option Denotation → Type 0
  FlagIf None = Unit {0}
  FlagIf (Some d) = g d.token ≡ has_external_linkage d

  abbrev pub AllFlagged : List (Option Denotation) → Type 0
  AllFlagged [] = Unit {0}
  AllFlagged (d ∷ ds) = FlagIf d × AllFlagged ds

  abbrev pub FlagsFrom : ℕ → List (Option Denotation) → Type 0
  FlagsFrom n [] = Unit {0}
  FlagsFrom n (d ∷ ds) = (g n ≡ flag d) × FlagsFrom (n + 1) ds

  abbrev pub AreFlagged : List Entry → Type 0
  AreFlagged es = All IsFlagged es × All (Agrees es) es

  denotation-flagged : (es : List Entry) (e : Entry) → All IsFlagged es → IsFlagged e → Agrees es e → g (entity_of es e) ≡ is_externally_linked e
  denotation-flagged es e all own agrees = by e.linked refl
    where
      by : (x : Bool) → e.linked ≡ x → g (if x then token_or e.token (first_linked e.name es) else e.token) ≡ is_externally_linked e
      by false h = own
      by true h =
          let w = agrees h in
          let t = both w.0.linked (bytes_eq w.0.name e.name) (find-Some (is_linked e.name) es w.0 w.1) in
          ap (λ o. g (token_or e.token o)) w.1 ∙ All-find IsFlagged (is_linked e.name) es w.0 all w.1 ∙ ap (λ l. l && not w.0.internal) (t.0 ∙ sym h) ∙ ap (λ i. e.linked && not i) w.2

  -- what one token leaves is flagged, and what it denotes
  abbrev BoundFlagged : Option Bound → Type 0
  BoundFlagged None = Unit {0}
  BoundFlagged (Some d) = AreFlagged d.after.entries × FlagIf d.denotes

  declared-flagged : (b : Bindings) (e : Entry) → AreFlagged b.entries → IsFlagged e → BoundFlagged (declared b e)
  declared-flagged b e all own = by (is_redeclared b.entries e) refl
    where
      grown : All IsFlagged (b.entries ++ e ∷ [])
      grown = All-push IsFlagged b.entries e all.0 own

      by : (x : Bool) → is_redeclared b.entries e ≡ x → BoundFlagged (if x then None else Some (record { after = record { entries = b.entries ++ e ∷ []; path = b.path; next = b.next }; denotes = Some (denotation (b.entries ++ e ∷ []) e true) }))
      by true free = tt
      by false free =
          let self = agrees-self b.entries e free in
          ((grown, All-push (Agrees (b.entries ++ e ∷ [])) b.entries e (All-agrees-push b.entries e b.entries all.1) self), denotation-flagged (b.entries ++ e ∷ []) e grown own self)

  -- the declaration at a token has the linkage of what the token denotes
  declared-own : (b : Bindings) (e : Entry) (n : ℕ) (m : Bound) (d : Option Denotation) → e.token ≡ n → declared b e ≡ Some m → m.denotes ≡ d → g n ≡ flag d → IsFlagged e
  declared-own b e n m d token is denotes own = by (is_redeclared b.entries e) is
    where
      by : (x : Bool) → (if x then None else Some (record { after = record { entries = b.entries ++ e ∷ []; path = b.path; next = b.next }; denotes = Some (denotation (b.entries ++ e ∷ []) e true) })) ≡ Some m → IsFlagged e
      by true h = let no : None ≡ Some m = h in let bad : ⊥ = cc in absurd bad
      by false h =
          let same : (record { after = record { entries = b.entries ++ e ∷ []; path = b.path; next = b.next }; denotes = Some (denotation (b.entries ++ e ∷ []) e true) }) ≡ m = cc in
          ap g token ∙ own ∙ ap flag (sym denotes) ∙ sym (ap (λ (z : Bound). flag z.denotes) same)

  mentioned-flagged : (b : Bindings) (name : List ℕ) (o : Option Entry) → lookup b.entries name b.path ≡ o → AreFlagged b.entries → BoundFlagged (mentioned b o)
  mentioned-flagged b name None f all = tt
  mentioned-flagged b name (Some e) f all = (all, denotation-flagged b.entries e all.0 (All-lookup IsFlagged b.path name b.entries e all.0 f).0 (All-lookup (Agrees b.entries) b.path name b.entries e all.1 f).0)

  bound-flagged : (b : Bindings) (n : ℕ) (name : List ℕ) (p : Part) (m : Bound) (d : Option Denotation) → AreFlagged b.entries → bound b n name p ≡ Some m → m.denotes ≡ d → g n ≡ flag d → BoundFlagged (bound b n name p)
  bound-flagged b n name part.Plain m d all is denotes own = (all, tt)
  bound-flagged b n name part.Opens m d all is denotes own = (all, tt)
  bound-flagged b n name part.Closes m d all is denotes own = (all, tt)
  bound-flagged b n name (part.DeclaresObject word) m d all is denotes own = declared-flagged b (entry_at b false word name n) all (declared-own b (entry_at b false word name n) n m d refl is denotes own)
  bound-flagged b n name (part.DeclaresFunction word) m d all is denotes own = declared-flagged b (entry_at b true word name n) all (declared-own b (entry_at b true word name n) n m d refl is denotes own)
  bound-flagged b n name part.Mentions m d all is denotes own = mentioned-flagged b name (lookup b.entries name b.path) refl all

  pub flagged : (xs : List (Token × Part)) (n : ℕ) (b : Bindings) (ds : List (Option Denotation)) → AreFlagged b.entries → FlagsFrom n ds → resolved n b xs ≡ Some ds → AllFlagged ds
  flagged xs n b [] all flags h = tt
  flagged [] n b (d ∷ ds) all flags h = let no : Some [] ≡ Some (d ∷ ds) = h in let bad : ⊥ = cc in absurd bad
  flagged (x ∷ xs) n b (d ∷ ds) all flags h =
      by (bound b n x.0.text x.1) refl (λ m is. bound-flagged b n x.0.text x.1 m d all is) (λ c k g. flagged xs (n + 1) c ds k flags.1 g) h
    where
      rest : (e : Bound) (o : Option (List (Option Denotation))) → option_map (λ l. e.denotes ∷ l) o ≡ Some (d ∷ ds) → (e.denotes ≡ d) × (o ≡ Some ds)
      rest e None k = let no : None ≡ Some (d ∷ ds) = k in let bad : ⊥ = cc in absurd bad
      rest e (Some l) k = (cc, ap (λ z. Some z) (let t : l ≡ ds = cc in t))

      by : (o : Option Bound) → bound b n x.0.text x.1 ≡ o → ((m : Bound) → o ≡ Some m → m.denotes ≡ d → g n ≡ flag d → BoundFlagged o) → ((c : Bindings) → AreFlagged c.entries → resolved (n + 1) c xs ≡ Some ds → AllFlagged ds)
          → option_and_then (λ e. option_map (λ l. e.denotes ∷ l) (resolved (n + 1) e.after xs)) o ≡ Some (d ∷ ds) → FlagIf d × AllFlagged ds
      by None is bnd more k = let no : None ≡ Some (d ∷ ds) = k in let bad : ⊥ = cc in absurd bad
      by (Some m) is bnd more k =
          let t = rest m (resolved (n + 1) m.after xs) k in
          let f = bnd m refl t.0 flags.0 in
          (subst FlagIf t.0 f.1, more m.after f.0 t.1)

flags-from : (all ds : List (Option Denotation)) (n : ℕ) → ((k : ℕ) → flag_at all (n + k) ≡ flag_at ds k) → FlagsFrom (flag_at all) n ds
flags-from all [] n h = tt
flags-from all (d ∷ ds) n h =
    (ap (flag_at all) (let e : n ≡ n + 0 = omega arith in e) ∙ h 0, flags-from all ds (n + 1) (λ k. ap (flag_at all) (let e : n + 1 + k ≡ n + suc k = omega arith in e) ∙ h (suc k)))

pub all-flagged : (xs : List (Token × Part)) (b : Bindings) (ds : List (Option Denotation)) → AreFlagged (flag_at ds) b.entries → resolved 0 b xs ≡ Some ds → AllFlagged (flag_at ds) ds
all-flagged xs b ds all h = flagged (flag_at ds) xs 0 b ds all (flags-from ds ds 0 (λ k. ap (flag_at ds) (let e : 0 + k ≡ k = omega arith in e))) h

pub flagged-get : (g : ℕ → Bool) (ds : List (Option Denotation)) (i : ℕ) (d : Denotation) → AllFlagged g ds → slice_get ds i ≡ Some (Some d) → g d.token ≡ has_external_linkage d
flagged-get g [] i d all h = let no : None ≡ Some (Some d) = h in let bad : ⊥ = cc in absurd bad
flagged-get g (x ∷ ds) zero d all h = let same : x ≡ Some d = cc in subst (FlagIf g) same all.0
flagged-get g (x ∷ ds) (suc i) d all h = flagged-get g ds i d all.1 h
