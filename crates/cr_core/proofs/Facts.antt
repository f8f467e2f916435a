-- The facts of the first answers.
use Rattle.std.proofs.Common.{◌≡◌, ◌↔◌, ◌<◌, ◌≤◌, ◌⊎◌, inl, inr, ℕ, ◌+◌, length, Bool, true, false, ◌==◌, Some, List, [], refl, sym, ap, ◌∙◌, subst, arith}
use Rattle.std.specs.Prelude.{Contains, nat_lt}
use Rattle.std.specs.List.{flat_map}
use Rattle.std.proofs.lemmas.Bool.Decides.{nat_tests}
use Rattle.std.proofs.lemmas.List.Elements.{Contains-append_left, Contains-append_right, Contains-append_cases}
use Rattle.cr_core.specs.declared.progress.Progress.{Progress}
use Rattle.cr_core.specs.declared.Reply.TheVariants.{First, Repeat}
use Rattle.cr_core.specs.declared.Happened.{Happened}
use Rattle.cr_core.specs.declared.Happened.TheVariants.{Assigned, Finished, Answered, Lost}
use Rattle.cr_core.specs.Assignment.{State, untouched, start, answered, is_legal, after, replay}
use Rattle.cr_core.specs.Law.{facts_brought, is_first_answer_of}
use Rattle.cr_core.proofs.Units.{get_past, get_replicate, length_replicate}
use Rattle.cr_core.proofs.Runs.{Run, stop, goes, run, units_run}
use Rattle.cr_core.proofs.Counts.{one_if, answered_after}

one_true : (b : Bool) → one_if b ≡ 1 → b ≡ true
one_true true e = refl
one_true false e = absurd (omega arith)

-- a unit that is answered stays so, and a first answer answers its unit

stays_by : (a b c : Bool) → one_if c ≡ one_if a + one_if b → b ≡ true → c ≡ true
stays_by a b true h is_so = refl
stays_by true true false h is_so = absurd (omega arith)
stays_by false true false h is_so = absurd (omega arith)
stays_by a false false h is_so = cc

stays : (s : State) (e : Happened) (v : ℕ) → is_legal s e ≡ true → answered s v ≡ true → answered (after s e) v ≡ true
stays s e v legal is_so = stays_by (is_first_answer_of v e) (answered s v) (answered (after s e) v) (answered_after s e v legal) is_so

-- a newly answered unit is that of a first answer
gained_by : (a b c : Bool) → one_if c ≡ one_if a + one_if b → c ≡ true → (b ≡ true) ⊎ (a ≡ true)
gained_by true b c h is_so = inr refl
gained_by false true c h is_so = inl refl
gained_by false false true h is_so = absurd (omega arith)
gained_by false false false h is_so = cc

gained : (s : State) (e : Happened) (v : ℕ) → is_legal s e ≡ true → answered (after s e) v ≡ true → (answered s v ≡ true) ⊎ (is_first_answer_of v e ≡ true)
gained s e v legal is_so = gained_by (is_first_answer_of v e) (answered s v) (answered (after s e) v) (answered_after s e v legal) is_so

first_by : (a b c : Bool) → a ≡ true → one_if c ≡ one_if a + one_if b → one_if c ≡ 1
first_by a b true is_so h = refl
first_by true b false is_so h = absurd (omega arith)
first_by false b false is_so h = cc

module _ {F : Type 0} (facts : ℕ → List F) where
  -- a fact of some answered unit
  abbrev IsKnown : State → F → Type 0
  IsKnown s fact = (unit : ℕ) × (answered s unit ≡ true) × Contains (facts unit) fact

  no_fact : (fact : F) → Contains {X = F} [] fact → ⊥
  no_fact fact c = absurd (let below = c.1 in omega (arith, below))

  known_now : (s : State) (e : Happened) (fact : F) → is_legal s e ≡ true → Contains (facts_brought facts e) fact → IsKnown (after s e) fact
  known_now s (Assigned w u n) fact legal c = absurd (no_fact fact c)
  known_now s (Finished w) fact legal c = absurd (no_fact fact c)
  known_now s (Answered w u First) fact legal c =
      let same : (u == u) ≡ true = grind (arith, nat_tests) in
      let more = answered_after s (Answered w u First) u legal in
      let one : one_if (answered (after s (Answered w u First)) u) ≡ 1 = first_by (u == u) (answered s u) (answered (after s (Answered w u First)) u) same more in
      (u, one_true _ one, c)
  known_now s (Answered w u Repeat) fact legal c = absurd (no_fact fact c)
  known_now s (Lost w u why) fact legal c = absurd (no_fact fact c)

  known_stays : {s t : State} {es : List Happened} (fact : F) → Run s es t → IsKnown s fact → IsKnown t fact
  known_stays fact stop k = k
  known_stays {s} fact (goes {e} legal r) k = known_stays fact r (k.0, stays s e k.0 legal k.1, k.2)

  known_of : {s t : State} {es : List Happened} (fact : F) → Run s es t → Contains (flat_map (facts_brought facts) es) fact → IsKnown t fact
  known_of fact stop c = absurd (no_fact fact c)
  known_of {s} fact (goes {e} {es} legal r) c =
      elim (Contains-append_cases (facts_brought facts e) (flat_map (facts_brought facts) es) fact c) [
        | inl now ↦ known_stays fact r (known_now s e fact legal now)
        | inr later ↦ known_of fact r later
      ]

  brought_by : (e : Happened) (v : ℕ) (fact : F) → is_first_answer_of v e ≡ true → Contains (facts v) fact → Contains (facts_brought facts e) fact
  brought_by (Assigned w u n) v fact h c = cc
  brought_by (Finished w) v fact h c = cc
  brought_by (Answered w u First) v fact h c =
      let same : u ≡ v = grind (arith, nat_tests, h) in
      let P : ℕ → Type 0 = λ z. Contains (facts z) fact in subst P (sym same) c
  brought_by (Answered w u Repeat) v fact h c = cc
  brought_by (Lost w u why) v fact h c = cc

  brought : {s t : State} {es : List Happened} (fact : F) (v : ℕ) → Run s es t → answered t v ≡ true → Contains (facts v) fact → (answered s v ≡ true) ⊎ Contains (flat_map (facts_brought facts) es) fact
  brought fact v stop is_so c = inl is_so
  brought {s} fact v (goes {e} {es} legal r) is_so c =
      elim (brought fact v r is_so c) [
        | inl before ↦ elim (gained s e v legal before) [
          | inl old ↦ inl old
          | inr first ↦ inr (Contains-append_left (facts_brought facts e) (flat_map (facts_brought facts) es) fact (brought_by e v fact first c))
        ]
        | inr later ↦ inr (Contains-append_right (facts_brought facts e) (flat_map (facts_brought facts) es) fact later)
      ]

  start_none : (units retries v : ℕ) → answered (start units retries) v ≡ false
  start_none units retries v = ap (λ (x : Progress). x.is_answered) (get_replicate v units untouched)

  below_by : (n v : ℕ) (b : Bool) → nat_lt v n ≡ b → (nat_lt v n ≡ false → ⊥) → v < n
  below_by n v true is never = grind (arith, nat_tests, is)
  below_by n v false is never = absurd (never is)

  -- only a unit of the list is answered
  within : (s : State) (v : ℕ) → answered s v ≡ true → v < length s.units
  within s v is_so = below_by (length s.units) v (nat_lt v (length s.units)) refl (λ is.
      let past : length s.units ≤ v = grind (arith, nat_tests, is) in
      let not_so = ap (λ (x : Progress). x.is_answered) (get_past s.units v untouched past) in cc)

  pub all_facts : (units retries : ℕ) (list : List Happened) (s : State) → replay (start units retries) list ≡ Some s → ((unit : ℕ) → unit < units → answered s unit ≡ true)
      → (fact : F) → Contains (flat_map (facts_brought facts) list) fact ↔ ((unit : ℕ) × (unit < units) × Contains (facts unit) fact)
  all_facts units retries list s h all fact =
      let r = run (start units retries) s list h in
      let same : length s.units ≡ units = units_run r ∙ length_replicate units untouched in (
        λ c. let k = known_of fact r c in let below = within s k.0 k.1 in (k.0, omega (arith, below, same), k.2),
        λ k. elim (brought fact k.0 r (all k.0 k.1) k.2) [
          | inl early ↦ absurd (let never = start_none units retries k.0 in cc)
          | inr found ↦ found
        ],
      )
