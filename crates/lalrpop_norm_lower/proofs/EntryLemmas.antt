-- Starts and rules as lowering makes them, with the numbers of their actions; for the nonterminals of the lowered grammar.
use Rattle.std.specs.Prelude.{Some, map, slice_get}
use Rattle.std.proofs.Common.{◌≡◌, ◌∙◌, ℕ, zero, suc, ◌+◌, List, [], ◌∷◌, ◌++◌, refl, ap, ap₂, sym}
use Rattle.std.proofs.Common.{subst, inl, inr, length, length-append, append_assoc, arith}
use Rattle.lalrpop_grammar_symbols.specs.Symbols.{Text}
use Rattle.lalrpop_grammar_symbols.specs.declared.names.NonterminalString.{NonterminalString}
use Rattle.lalrpop_grammar.specs.WrittenGrammar.{Action, Alternative, Origin, Rule}
use Rattle.lalrpop_grammar_language.specs.Among.{Among}
use Rattle.lalrpop_grammar_repr.specs.declared.action.ActionFnDefn.{ActionFnDefn}
use Rattle.lalrpop_grammar.specs.declared.types.type_repr.TypeRepr.{TypeRepr}
use Rattle.lalrpop_norm_lower.specs.Definitions.{definition_of, type_in_table}
use Rattle.lalrpop_norm_lower.specs.LoweredLists.{LoweredNonterminal, alternative_definitions, alternative_origins, rule_definitions}
use Rattle.lalrpop_norm_lower.specs.LoweredLists.{rule_entries, entry_of_rule, rule_origins, start_definitions, start_entries}
use Rattle.lalrpop_norm_lower.specs.LoweredLists.{entry_of_start, start_origins}

-- in joined lists the second one's elements stand behind the first one's
pub behind_front : {A : Type 0} (front back : List A) (k i : ℕ) → length front ≡ k
    → slice_get (front ++ back) (k + i) ≡ slice_get back i
behind_front [] back k i e = ap (slice_get back) (let f : k + i ≡ i = omega (arith, e) in f)
behind_front (x ∷ front) back k i e = go k e (behind_front front back)
  where
    go : (k : ℕ) → suc (length front) ≡ k
        → ((m j : ℕ) → length front ≡ m → slice_get (front ++ back) (m + j) ≡ slice_get back j)
        → slice_get (x ∷ front ++ back) (k + i) ≡ slice_get back i
    go k f later =
        let number : k + i ≡ suc (length front + i) = omega (arith, f) in
        ap (slice_get (x ∷ front ++ back)) number ∙ later (length front) i refl

-- what stands at a place of a list stands there when more is put behind
pub in_front : {A : Type 0} (front back : List A) (i : ℕ) (x : A) → slice_get front i ≡ Some x
    → slice_get (front ++ back) i ≡ Some x
in_front [] back i x e = cc
in_front (y ∷ front) back zero x e = e
in_front (y ∷ front) back (suc i) x e = in_front front back i x e

pub mapped_at : {A B : Type 0} (f : A → B) (xs : List A) (i : ℕ) (x : A) → slice_get xs i ≡ Some x
    → slice_get (map f xs) i ≡ Some (f x)
mapped_at f [] i x e = cc
mapped_at f (y ∷ xs) zero x e = let g : y ≡ x = cc in ap (λ z. Some (f z)) g
mapped_at f (y ∷ xs) (suc i) x e = mapped_at f xs i x e

-- a mapped list is as long as before
pub length_mapped : {A B : Type 0} (f : A → B) (xs : List A) → length (map f xs) ≡ length xs
length_mapped f [] = refl
length_mapped f (x ∷ xs) = ap suc (length_mapped f xs)

-- Definitions and origins from that number on are those of the rule's alternatives.
pub record HasNumbers (table : List (NonterminalString × TypeRepr)) (definitions : List ActionFnDefn) (origins : List Origin)
    (first : ℕ) (r : Rule) : Type 0 where
  pub definition_at : (i : ℕ) (a : Alternative) → slice_get r.alternatives i ≡ Some a
      → slice_get definitions (first + i) ≡ Some (definition_of (type_in_table table r.name) a.action)
  pub origin_at : (i : ℕ) (a : Alternative) → slice_get r.alternatives i ≡ Some a → slice_get origins (first + i) ≡ Some a.origin

-- a rule as lowering makes it
pub record IsRuleEntry (table : List (NonterminalString × TypeRepr)) (definitions : List ActionFnDefn) (origins : List Origin)
    (r : Rule) (made : List LoweredNonterminal) : Type 0 where
  pub first : ℕ
  pub there : Among made (entry_of_rule first r)
  pub numbers : HasNumbers table definitions origins first r

module _ (table : List (NonterminalString × TypeRepr)) where
  abbrev definitions_of : Rule → List ActionFnDefn
  definitions_of r = alternative_definitions (type_in_table table r.name) r.alternatives

  first_numbers : (ds : List ActionFnDefn) (os : List Origin) (k : ℕ) (r : Rule) (rs : List Rule) → length ds ≡ k → length os ≡ k
      → HasNumbers table (ds ++ rule_definitions table (r ∷ rs)) (os ++ rule_origins (r ∷ rs)) k r
  first_numbers ds os k r rs e f = record {
    definition_at = λ i a h.
        behind_front ds (rule_definitions table (r ∷ rs)) k i e
        ∙ in_front (definitions_of r) (rule_definitions table rs) i (definition_of (type_in_table table r.name) a.action)
        (mapped_at (λ (x : Alternative). definition_of (type_in_table table r.name) x.action) r.alternatives i a h);
    origin_at = λ i a h.
        behind_front os (rule_origins (r ∷ rs)) k i f
        ∙ in_front (alternative_origins r.alternatives) (rule_origins rs) i a.origin
        (mapped_at (λ (x : Alternative). x.origin) r.alternatives i a h);
  }

  grown : {A : Type 0} (xs ys : List A) (k n : ℕ) → length xs ≡ k → length ys ≡ n → length (xs ++ ys) ≡ k + n
  grown xs ys k n e f = let g = length-append xs ys in omega (arith, e, f, g)

  -- each rule is made, from some number on
  pub rule_made : (ds : List ActionFnDefn) (os : List Origin) (k : ℕ) (rs : List Rule) → length ds ≡ k → length os ≡ k
      → (r : Rule) → Among rs r
      → IsRuleEntry table (ds ++ rule_definitions table rs) (os ++ rule_origins rs) r (rule_entries k rs)
  rule_made ds os k [] e f r i = absurd i
  rule_made ds os k (q ∷ rs) e f r (inl same) =
      subst (λ (x : Rule). IsRuleEntry table (ds ++ rule_definitions table (q ∷ rs)) (os ++ rule_origins (q ∷ rs)) x
      (rule_entries k (q ∷ rs))) same
      (record { first = k; there = inl refl; numbers = first_numbers ds os k q rs e f })
  rule_made ds os k (q ∷ rs) e f r (inr i) =
      let w = rule_made (ds ++ definitions_of q) (os ++ alternative_origins q.alternatives) (k + length q.alternatives) rs
      (grown ds (definitions_of q) k (length q.alternatives) e
      (length_mapped (λ (x : Alternative). definition_of (type_in_table table q.name) x.action) q.alternatives))
      (grown os (alternative_origins q.alternatives) k (length q.alternatives) f
      (length_mapped (λ (x : Alternative). x.origin) q.alternatives)) r i in
      record {
        first = w.first;
        there = inr w.there;
        numbers = subst (λ l. HasNumbers table l (os ++ rule_origins (q ∷ rs)) w.first r)
            (append_assoc ds (definitions_of q) (rule_definitions table rs))
            (subst (λ l. HasNumbers table ((ds ++ definitions_of q) ++ rule_definitions table rs) l w.first r)
            (append_assoc os (alternative_origins q.alternatives) (rule_origins rs)) w.numbers);
      }

  -- a start as lowering makes it
  pub record IsStartEntry (prefix : Text) (definitions : List ActionFnDefn) (origins : List Origin) (r : Rule)
      (made : List LoweredNonterminal) : Type 0 where
    pub number : ℕ
    pub there : Among made (entry_of_start prefix number r)
    pub definition_at : slice_get definitions number ≡ Some (definition_of (type_in_table table r.name) Action.default)
    pub origin_at : slice_get origins number ≡ Some Origin.start

  -- each start is made, with some number
  pub start_made : (prefix : Text) (k : ℕ) (ss : List Rule) (r : Rule) → Among ss r
      → (i : ℕ) × Among (start_entries prefix k ss) (entry_of_start prefix (k + i) r)
      × (slice_get (start_definitions table ss) i ≡ Some (definition_of (type_in_table table r.name) Action.default))
      × (slice_get (start_origins ss) i ≡ Some Origin.start)
  start_made prefix k [] r i = absurd i
  start_made prefix k (q ∷ ss) r (inl same) = (
    0,
    inl (ap₂ (λ (n : ℕ) (x : Rule). entry_of_start prefix n x) (let e : k ≡ k + 0 = omega arith in e) same),
    ap (λ (x : Rule). Some (definition_of (type_in_table table x.name) Action.default)) same,
    refl,
  )
  start_made prefix k (q ∷ ss) r (inr i) =
      let w = start_made prefix (k + 1) ss r i in (
        suc w.0,
        inr (subst (λ (n : ℕ). Among (start_entries prefix (k + 1) ss) (entry_of_start prefix n r))
            (let e : (k + 1) + w.0 ≡ k + suc w.0 = omega arith in e) w.1),
        w.2,
        w.3,
      )

-- what is made is a rule's or a start's
pub made_of_rule : (k : ℕ) (rs : List Rule) (v : LoweredNonterminal) → Among (rule_entries k rs) v
    → (r : Rule) × (n : ℕ) × Among rs r × (v ≡ entry_of_rule n r)
made_of_rule k [] v i = absurd i
made_of_rule k (r ∷ rs) v (inl e) = (r, k, inl refl, sym e)
made_of_rule k (r ∷ rs) v (inr i) = let w = made_of_rule (k + length r.alternatives) rs v i in (w.0, w.1, inr w.2, w.3)

-- each entry of start symbols is that of one of the rules, under some number
pub made_of_start : (prefix : Text) (k : ℕ) (ss : List Rule) (v : LoweredNonterminal) → Among (start_entries prefix k ss) v
    → (r : Rule) × (n : ℕ) × Among ss r × (v ≡ entry_of_start prefix n r)
made_of_start prefix k [] v i = absurd i
made_of_start prefix k (r ∷ ss) v (inl e) = (r, k, inl refl, sym e)
made_of_start prefix k (r ∷ ss) v (inr i) = let w = made_of_start prefix (k + 1) ss v i in (w.0, w.1, inr w.2, w.3)
