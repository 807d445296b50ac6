-- Computed examples of productions that are those of an expansion, and of productions that aren't.
use Prim.Native.String.{String}
use Rattle.std.proofs.Common.{◌≡◌, ◌≢◌, ℕ, zero, suc, List, [], ◌∷◌, ◌++◌, refl, ap, sym, ◌∙◌, subst}
use Rattle.std.proofs.Common.{inl, inr, true, false, ◌+◌, ◌⊎◌, arith}
use Rattle.std.specs.Fmt.{digits}
use Rattle.std.specs.Prelude.{None, codes}
use Rattle.lalrpop_grammar_symbols.specs.Symbols.{Text, Closed, Closeds, Terminal}
use Rattle.lalrpop_grammar.specs.WrittenGrammar.{Alternative, Attr, Origin, WrittenItem}
use Rattle.lalrpop_grammar_language.specs.Among.{Among}
use Rattle.lalrpop_grammar_language.specs.Enabled.{EnabledGrammar, enabled_grammar}
use Rattle.lalrpop_grammar_language.specs.Expansion.{GrammarSymbol, Nonterminal, RightSide, Produces, InExpansion}
use Rattle.lalrpop_grammar_language.proofs.WrittenTreeLemmas.{here, lit, id, alt, rule_of, grammar, finds}
use Rattle.lalrpop_norm_theory.specs.Inlined.{IsInlined}
use Rattle.lalrpop_norm_theory.specs.Keys.{leveled_key_text}
use Rattle.lalrpop_norm_theory.proofs.ExpansionListLemmas.{all-of}
use Rattle.lalrpop_norm_theory.proofs.NamingListLemmas.{name_by, naming-is}
use Rattle.lalrpop_norm_theory.proofs.ProductionListLemmas.{is_production, listed}
use Rattle.lalrpop_norm_theory.proofs.RowListLemmas.{reached-each}
use Rattle.lalrpop_grammar_language.specs.Labels.{Label, Inlinings}
use Rattle.lalrpop_grammar_language.specs.Inlining.{Inlines, InlinesAll}
use Rattle.lalrpop_lr1_theory.specs.Productions as theory
use Rattle.lalrpop_run_theory.specs.Expansions.{AreExpansion, StandsForInlined, theory_side}
use Rattle.lalrpop_run_theory.proofs.InlinedTestLemmas.{inlined_decided}

-- Short ways to write.

-- the attribute that has a rule inlined
abbrev pub inline : Attr
inline = Attr.empty here (codes "inline")

-- the nonterminal of a rule by its name, without arguments and level
abbrev pub rule : String → Nonterminal
rule s = Nonterminal.closed (Closed.call (codes s) Closeds.none None)

-- a nonterminal as a symbol on a right side of the expansion
abbrev pub n : Nonterminal → GrammarSymbol Nonterminal
n x = GrammarSymbol.nonterminal x

-- a quoted terminal as a symbol on a right side of the expansion
abbrev pub t : String → GrammarSymbol Nonterminal
t s = GrammarSymbol.terminal (Terminal.quoted (codes s))

-- an alternative of a rule, by its place
abbrev pub place : String → ℕ → Origin
place s k = Origin.alternative (codes s) [] k

-- the labels of productions, by the choices of the expansion
abbrev pub L : Type 0
L = Label Nonterminal Origin

abbrev pub I : Type 0
I = Inlinings Nonterminal Origin

-- a symbol that is kept, in front of what becomes of the others
abbrev pub kept : I → I
kept rest = Inlinings.kept rest

-- a symbol that is inlined by a label, in front of what becomes of the others
abbrev pub inlined : L → I → I
inlined l rest = Inlinings.inlined l rest

-- the end of what becomes of symbols: none are left
abbrev pub end : I
end = Inlinings.none

-- a production, by its action
abbrev pub production : String → List theory.Symbol → ℕ → theory.Production
production s side k = record { left = codes s; right = side; action = k; from = 0; to = 0 }

-- a quoted terminal, as the theory of tables sees it
abbrev pub word : String → theory.Symbol
word s = theory.terminal (Terminal.quoted (codes s))

-- a nonterminal by its name, as the theory of tables sees it
abbrev pub name : String → theory.Symbol
name s = theory.nonterminal (codes s)

-- the label at a place of a list, or the one that is given
abbrev pub label_at : L → List L → ℕ → L
label_at l [] k = l
label_at l (m ∷ ms) zero = m
label_at l (m ∷ ms) (suc k) = label_at l ms k

-- one of a list
abbrev pub IsOneOf : List theory.Production → theory.Production → Type 0
IsOneOf = Among

-- a rule that is not public, with these attributes
abbrev pub private : List Attr → String → List Alternative → WrittenItem
private attributes s alternatives = WrittenItem.nonterminal (record {
  public = false;
  name = codes s;
  attributes = attributes;
  span = here;
  parameters = [];
  declared = None;
  alternatives = alternatives;
})

-- pub S = Op "x"; #[inline] Op = { "a", "a" }
abbrev pub alike : EnabledGrammar
alike = enabled_grammar finds [] (grammar (rule_of "S" (alt (id "Op" ∷ lit "x" ∷ []) ∷ [])
    ∷ private (inline ∷ []) "Op" (alt (lit "a" ∷ []) ∷ alt (lit "a" ∷ []) ∷ []) ∷ []))

abbrev pub start : Nonterminal
start = Nonterminal.start (codes "S")

abbrev pub alike_nonterminals : List Nonterminal
alike_nonterminals = start ∷ rule "S" ∷ rule "Op" ∷ []

abbrev pub names : Nonterminal → Text
names = name_by (leveled_key_text alike) (codes "__") []

abbrev pub op : ℕ → L
op k = Label.choose (rule "Op") (place "Op" k) (kept end)

abbrev pub by_op : ℕ → L
by_op k = Label.choose (rule "S") (place "S" 0) (inlined (op k) (kept end))

abbrev pub by_start : L
by_start = Label.choose start Origin.start (kept end)

-- five productions, of which two and two have the same symbols
abbrev pub five : List theory.Production
five = production "__S" (name "S" ∷ []) 0 ∷ production "S" (word "a" ∷ word "x" ∷ []) 1
    ∷ production "S" (word "a" ∷ word "x" ∷ []) 2
    ∷ production "Op" (word "a" ∷ []) 3 ∷ production "Op" (word "a" ∷ []) 4 ∷ []

-- the labels of the five productions, by the numbers of their actions
abbrev pub five_labels : ℕ → L
five_labels = label_at by_start (by_start ∷ by_op 0 ∷ by_op 1 ∷ op 0 ∷ op 1 ∷ [])

abbrev Choice : Type 0
Choice = Origin × RightSide

-- a nonterminal that isn't inlined is kept
pub one_kept : (g : EnabledGrammar) (x : Nonterminal) → (IsInlined g x → ⊥) → (inlinings : I) (side : RightSide) →
    InlinesAll (Produces g) (IsInlined g) (n x ∷ []) inlinings side → (inlinings ≡ kept end) × (side ≡ n x ∷ [])
one_kept g x stays Inlinings.none side h = absurd h
one_kept g x stays (Inlinings.inlined l inlinings) side h = absurd (stays h.0)
one_kept g x stays (Inlinings.kept Inlinings.none) side h = (refl, h.2 ∙ ap (λ z. n x ∷ z) h.3)
one_kept g x stays (Inlinings.kept (Inlinings.kept inlinings)) side h = absurd h.3
one_kept g x stays (Inlinings.kept (Inlinings.inlined l inlinings)) side h = absurd h.3

-- a start with one right side, a nonterminal that isn't inlined, has one label
pub one_start : (g : EnabledGrammar) (x : Nonterminal) → (IsInlined g x → ⊥) →
    ((o : Origin) (side : RightSide) → Produces g start o side →
    Among {A = Origin × RightSide} ((Origin.start, n x ∷ []) ∷ []) (o, side)) →
    (l : L) (side : RightSide) → Inlines (Produces g) (IsInlined g) start l side → (l ≡ by_start) × (side ≡ n x ∷ [])
one_start g x stays only (Label.choose z o inlinings) side h = go (only o h.1 h.2)
  where
    go : Among {A = Choice} ((Origin.start, n x ∷ []) ∷ []) (o, h.1) →
        (Label.choose z o inlinings ≡ by_start) × (side ≡ n x ∷ [])
    go (inl e) =
        let choice : Origin.start ≡ o = ap (λ (c : Choice). c.0) e in
        let before : n x ∷ [] ≡ h.1 = ap (λ (c : Choice). c.1) e in
        let r =
        one_kept g x stays inlinings side (subst (λ b. InlinesAll (Produces g) (IsInlined g) b inlinings side) (sym before) h.3) in (
          ap (λ y. Label.choose y o inlinings) h.0 ∙ ap (λ c. Label.choose start c inlinings) (sym choice)
              ∙ ap (Label.choose start Origin.start) r.0,
          r.1,
        )
    go (inr i) = absurd i

abbrev IsAlike : Nonterminal → L → RightSide → Type 0
IsAlike x l side = Inlines (Produces alike) (IsInlined alike) x l side

-- what the labels of the three nonterminals are

S_stays : IsInlined alike (rule "S") → ⊥
S_stays h = let wrong : false ≡ true = (inlined_decided alike (rule "S")).0 h in cc

Op_goes : IsInlined alike (rule "Op")
Op_goes = (inlined_decided alike (rule "Op")).1 refl

abbrev All : RightSide → I → RightSide → Type 0
All before inlinings side = InlinesAll (Produces alike) (IsInlined alike) before inlinings side

of_word : (s : String) (inlinings : I) (side : RightSide) → All (t s ∷ []) inlinings side →
    (inlinings ≡ kept end) × (side ≡ t s ∷ [])
of_word s Inlinings.none side h = absurd h
of_word s (Inlinings.inlined l inlinings) side h = absurd h
of_word s (Inlinings.kept Inlinings.none) side h = (refl, h.2 ∙ ap (λ z. t s ∷ z) h.3)
of_word s (Inlinings.kept (Inlinings.kept inlinings)) side h = absurd h.3
of_word s (Inlinings.kept (Inlinings.inlined l inlinings)) side h = absurd h.3

-- a label of the start
of_start : (l : L) (side : RightSide) → IsAlike start l side → (l ≡ by_start) × (side ≡ n (rule "S") ∷ [])
of_start = one_start alike (rule "S") S_stays (λ o side m. listed alike start o side m)

-- a label of `Op`
abbrev IsOp : L → RightSide → ℕ → Type 0
IsOp l side k = (l ≡ op k) × (side ≡ t "a" ∷ [])

of_Op : (l : L) (side : RightSide) → IsAlike (rule "Op") l side → IsOp l side 0 ⊎ IsOp l side 1
of_Op (Label.choose z o inlinings) side h = go (listed alike (rule "Op") o h.1 h.2)
  where
    at : (k : ℕ) → ◌≡◌ {A = Choice} (place "Op" k, t "a" ∷ []) (o, h.1) → IsOp (Label.choose z o inlinings) side k
    at k e =
        let choice : place "Op" k ≡ o = ap (λ (c : Choice). c.0) e in
        let before : t "a" ∷ [] ≡ h.1 = ap (λ (c : Choice). c.1) e in
        let r = of_word "a" inlinings side (subst (λ b. All b inlinings side) (sym before) h.3) in (
          ap (λ x. Label.choose x o inlinings) h.0 ∙ ap (λ c. Label.choose (rule "Op") c inlinings) (sym choice)
              ∙ ap (Label.choose (rule "Op") (place "Op" k)) r.0,
          r.1,
        )

    go : Among {A = Choice} ((place "Op" 0, t "a" ∷ []) ∷ (place "Op" 1, t "a" ∷ []) ∷ []) (o, h.1) →
        IsOp (Label.choose z o inlinings) side 0 ⊎ IsOp (Label.choose z o inlinings) side 1
    go (inl e) = inl (at 0 e)
    go (inr (inl e)) = inr (at 1 e)
    go (inr (inr i)) = absurd i

-- what is inlined at `Op "x"`
abbrev IsByOp : I → RightSide → ℕ → Type 0
IsByOp inlinings side k = (inlinings ≡ inlined (op k) (kept end)) × (side ≡ t "a" ∷ t "x" ∷ [])

of_side : (inlinings : I) (side : RightSide) → All (n (rule "Op") ∷ t "x" ∷ []) inlinings side →
    IsByOp inlinings side 0 ⊎ IsByOp inlinings side 1
of_side Inlinings.none side h = absurd h
of_side (Inlinings.kept inlinings) side h = absurd (h.0 Op_goes)
of_side (Inlinings.inlined l inlinings) side h = go (of_Op l h.1.front h.1.is_front)
  where
    at : (k : ℕ) → IsOp l h.1.front k → IsByOp (Inlinings.inlined l inlinings) side k
    at k f =
        let r = of_word "x" inlinings h.1.rest h.1.is_rest in (
          ap (λ m. inlined m inlinings) f.0 ∙ ap (inlined (op k)) r.0,
          h.1.side_is ∙ ap (λ z. z ++ h.1.rest) f.1 ∙ ap (λ z. t "a" ∷ z) r.1,
        )

    go : IsOp l h.1.front 0 ⊎ IsOp l h.1.front 1 →
        IsByOp (Inlinings.inlined l inlinings) side 0 ⊎ IsByOp (Inlinings.inlined l inlinings) side 1
    go (inl f) = inl (at 0 f)
    go (inr f) = inr (at 1 f)

-- a label of `S`
abbrev IsS : L → RightSide → ℕ → Type 0
IsS l side k = (l ≡ by_op k) × (side ≡ t "a" ∷ t "x" ∷ [])

of_rule : (l : L) (side : RightSide) → IsAlike (rule "S") l side → IsS l side 0 ⊎ IsS l side 1
of_rule (Label.choose z o inlinings) side h = go (listed alike (rule "S") o h.1 h.2)
  where
    at : (k : ℕ) → place "S" 0 ≡ o → IsByOp inlinings side k → IsS (Label.choose z o inlinings) side k
    at k choice r = (
      ap (λ x. Label.choose x o inlinings) h.0 ∙ ap (λ c. Label.choose (rule "S") c inlinings) (sym choice)
          ∙ ap (Label.choose (rule "S") (place "S" 0)) r.0,
      r.1,
    )

    either : place "S" 0 ≡ o → IsByOp inlinings side 0 ⊎ IsByOp inlinings side 1 →
        IsS (Label.choose z o inlinings) side 0 ⊎ IsS (Label.choose z o inlinings) side 1
    either choice (inl r) = inl (at 0 choice r)
    either choice (inr r) = inr (at 1 choice r)

    go : Among {A = Choice} ((place "S" 0, n (rule "Op") ∷ t "x" ∷ []) ∷ []) (o, h.1) →
        IsS (Label.choose z o inlinings) side 0 ⊎ IsS (Label.choose z o inlinings) side 1
    go (inl e) =
        let before : n (rule "Op") ∷ t "x" ∷ [] ≡ h.1 = ap (λ (c : Choice). c.1) e in
        either (ap (λ (c : Choice). c.0) e) (of_side inlinings side (subst (λ b. All b inlinings side) (sym before) h.3))
    go (inr i) = absurd i

-- and these are labels
in_expansion : (x : Nonterminal) → Among alike_nonterminals x → InExpansion alike x
in_expansion = reached-each alike 2 alike_nonterminals refl

is_op : (k : ℕ) → Produces alike (rule "Op") (place "Op" k) (t "a" ∷ []) → IsAlike (rule "Op") (op k) (t "a" ∷ [])
is_op k m = (refl, t "a" ∷ [], m, (tt, [], refl, refl))

is_op_0 : IsAlike (rule "Op") (op 0) (t "a" ∷ [])
is_op_0 = is_op 0 (is_production alike (rule "Op") (place "Op" 0) (t "a" ∷ []) (inl refl))

is_op_1 : IsAlike (rule "Op") (op 1) (t "a" ∷ [])
is_op_1 = is_op 1 (is_production alike (rule "Op") (place "Op" 1) (t "a" ∷ []) (inr (inl refl)))

is_by_op : (k : ℕ) → IsAlike (rule "Op") (op k) (t "a" ∷ []) → IsAlike (rule "S") (by_op k) (t "a" ∷ t "x" ∷ [])
is_by_op k h = (
  refl,
  n (rule "Op") ∷ t "x" ∷ [],
  is_production alike (rule "S") (place "S" 0) (n (rule "Op") ∷ t "x" ∷ []) (inl refl),
  (
    Op_goes,
    record { front = t "a" ∷ []; rest = t "x" ∷ []; side_is = refl; is_front = h; is_rest = (tt, [], refl, refl) },
  ),
)

is_start : IsAlike start by_start (n (rule "S") ∷ [])
is_start = (
  refl,
  n (rule "S") ∷ [],
  is_production alike start Origin.start (n (rule "S") ∷ []) (inl refl),
  (S_stays, [], refl, refl),
)

abbrev Stands : theory.Production → Nonterminal → L → RightSide → Type 0
Stands p x l side = StandsForInlined alike (IsInlined alike) names five_labels p x l side

-- each of the five stands for its label
stands : (p : theory.Production) (x : Nonterminal) (l : L) (side : RightSide) → Among alike_nonterminals x → IsAlike x l side →
    p.left ≡ names x → p.right ≡ theory_side names side → five_labels p.action ≡ l → Stands p x l side
stands p x l side i h left right label =
    record { in_expansion = in_expansion x i; produced = h; left_is = left; right_is = right; label_is = label }

abbrev HasLabel : theory.Production → Type 0
HasLabel p = (x : Nonterminal) × (l : L) × (side : RightSide) × Stands p x l side

-- the production of a label
abbrev by_number : ℕ → theory.Production
by_number zero = production "__S" (name "S" ∷ []) 0
by_number (suc zero) = production "S" (word "a" ∷ word "x" ∷ []) 1
by_number (suc (suc zero)) = production "S" (word "a" ∷ word "x" ∷ []) 2
by_number (suc (suc (suc zero))) = production "Op" (word "a" ∷ []) 3
by_number (suc (suc (suc (suc k)))) = production "Op" (word "a" ∷ []) 4

abbrev number_of : Nonterminal → Origin → I → ℕ
number_of (Nonterminal.start s) o inlinings = 0
number_of (Nonterminal.closed x) (Origin.alternative s args k)
    (Inlinings.inlined (Label.choose y (Origin.alternative m more j) i) rest) = 1 + j
number_of (Nonterminal.closed x) (Origin.alternative s args k) (Inlinings.kept rest) = 3 + k
number_of x o inlinings = 9

abbrev by_label : L → theory.Production
by_label (Label.choose x o inlinings) = by_number (number_of x o inlinings)

told_back : (p : theory.Production) → IsOneOf five p → by_label (five_labels p.action) ≡ p
told_back p (inl e) = subst (λ (z : theory.Production). by_label (five_labels z.action) ≡ z) e refl
told_back p (inr (inl e)) = subst (λ (z : theory.Production). by_label (five_labels z.action) ≡ z) e refl
told_back p (inr (inr (inl e))) = subst (λ (z : theory.Production). by_label (five_labels z.action) ≡ z) e refl
told_back p (inr (inr (inr (inl e)))) = subst (λ (z : theory.Production). by_label (five_labels z.action) ≡ z) e refl
told_back p (inr (inr (inr (inr (inl e))))) = subst (λ (z : theory.Production). by_label (five_labels z.action) ≡ z) e refl
told_back p (inr (inr (inr (inr (inr i))))) = absurd i

-- the five productions are those of the expansion
five_are : AreExpansion alike (codes "__") (IsOneOf five)
unfolding digits
five_are = record {
  name_of = names;
  naming = naming-is alike (leveled_key_text alike) (codes "__") [] 2 alike_nonterminals refl refl refl;
  label_of = five_labels;
  every = λ x l side i h. at x l side (all-of alike alike_nonterminals refl x i) h;
  no_other = λ p i. has_label p i;
  once = λ p q i j e. one p q i j e;
}
  where
    Found : Nonterminal → L → RightSide → Type 0
    Found x l side = (p : theory.Production) × IsOneOf five p × Stands p x l side

    at_start : (l : L) (side : RightSide) → IsAlike start l side → Found start l side
    at_start l side h =
        let r = of_start l side h in (
          production "__S" (name "S" ∷ []) 0,
          inl refl,
          stands _ start l side (inl refl) h refl (ap (theory_side names) (sym r.1)) (sym r.0),
        )

    at_S : (l : L) (side : RightSide) → IsAlike (rule "S") l side → IsS l side 0 ⊎ IsS l side 1 → Found (rule "S") l side
    at_S l side h (inl r) = (
      production "S" (word "a" ∷ word "x" ∷ []) 1,
      inr (inl refl),
      stands _ (rule "S") l side (inr (inl refl)) h refl (ap (theory_side names) (sym r.1)) (sym r.0),
    )
    at_S l side h (inr r) = (
      production "S" (word "a" ∷ word "x" ∷ []) 2,
      inr (inr (inl refl)),
      stands _ (rule "S") l side (inr (inl refl)) h refl (ap (theory_side names) (sym r.1)) (sym r.0),
    )

    at_Op : (l : L) (side : RightSide) → IsAlike (rule "Op") l side → IsOp l side 0 ⊎ IsOp l side 1 → Found (rule "Op") l side
    at_Op l side h (inl r) = (
      production "Op" (word "a" ∷ []) 3,
      inr (inr (inr (inl refl))),
      stands _ (rule "Op") l side (inr (inr (inl refl))) h refl (ap (theory_side names) (sym r.1)) (sym r.0),
    )
    at_Op l side h (inr r) = (
      production "Op" (word "a" ∷ []) 4,
      inr (inr (inr (inr (inl refl)))),
      stands _ (rule "Op") l side (inr (inr (inl refl))) h refl (ap (theory_side names) (sym r.1)) (sym r.0),
    )

    at : (x : Nonterminal) (l : L) (side : RightSide) → Among alike_nonterminals x → IsAlike x l side → Found x l side
    at x l side (inl e) h =
        subst (λ y. Found y l side) e (at_start l side (subst (λ y. IsAlike y l side) (sym e) h))
    at x l side (inr (inl e)) h =
        let k = subst (λ y. IsAlike y l side) (sym e) h in
        subst (λ y. Found y l side) e (at_S l side k (of_rule l side k))
    at x l side (inr (inr (inl e))) h =
        let k = subst (λ y. IsAlike y l side) (sym e) h in
        subst (λ y. Found y l side) e (at_Op l side k (of_Op l side k))
    at x l side (inr (inr (inr i))) h = absurd i

    has_label : (p : theory.Production) → IsOneOf five p → HasLabel p
    has_label p (inl e) =
        subst HasLabel e (start, by_start, n (rule "S") ∷ [], stands _ start by_start _ (inl refl) is_start refl refl refl)
    has_label p (inr (inl e)) =
        subst HasLabel e
        (rule "S", by_op 0, t "a" ∷ t "x" ∷ [], stands _ (rule "S") (by_op 0) _ (inr (inl refl)) (is_by_op 0 is_op_0) refl refl refl)
    has_label p (inr (inr (inl e))) =
        subst HasLabel e
        (rule "S", by_op 1, t "a" ∷ t "x" ∷ [], stands _ (rule "S") (by_op 1) _ (inr (inl refl)) (is_by_op 1 is_op_1) refl refl refl)
    has_label p (inr (inr (inr (inl e)))) =
        subst HasLabel e (rule "Op", op 0, t "a" ∷ [], stands _ (rule "Op") (op 0) _ (inr (inr (inl refl))) is_op_0 refl refl refl)
    has_label p (inr (inr (inr (inr (inl e))))) =
        subst HasLabel e (rule "Op", op 1, t "a" ∷ [], stands _ (rule "Op") (op 1) _ (inr (inr (inl refl))) is_op_1 refl refl refl)
    has_label p (inr (inr (inr (inr (inr i))))) = absurd i

    one : (p q : theory.Production) → IsOneOf five p → IsOneOf five q → five_labels p.action ≡ five_labels q.action → p ≡ q
    one p q i j e = sym (told_back p i) ∙ ap by_label e ∙ told_back q j

-- Merged, one of the two productions of `S` is lost: then they are no longer those of the expansion.
abbrev merged : List theory.Production
merged = production "__S" (name "S" ∷ []) 0 ∷ production "S" (word "a" ∷ word "x" ∷ []) 1 ∷ production "Op" (word "a" ∷ []) 2
    ∷ production "Op" (word "a" ∷ []) 3 ∷ []

two_symbols : (p : theory.Production) → IsOneOf merged p → p.right ≡ word "a" ∷ word "x" ∷ [] →
    p ≡ production "S" (word "a" ∷ word "x" ∷ []) 1
two_symbols p (inl e) f =
    let wrong : name "S" ∷ [] ≡ word "a" ∷ word "x" ∷ [] = ap (λ (z : theory.Production). z.right) e ∙ f in
    cc
two_symbols p (inr (inl e)) f = sym e
two_symbols p (inr (inr (inl e))) f =
    let wrong : word "a" ∷ [] ≡ word "a" ∷ word "x" ∷ [] = ap (λ (z : theory.Production). z.right) e ∙ f in
    cc
two_symbols p (inr (inr (inr (inl e)))) f =
    let wrong : word "a" ∷ [] ≡ word "a" ∷ word "x" ∷ [] = ap (λ (z : theory.Production). z.right) e ∙ f in
    cc
two_symbols p (inr (inr (inr (inr i)))) f = absurd i

by_ops_differ : by_op 0 ≢ by_op 1
by_ops_differ e =
    let inner : op 0 ≡ op 1 = cc in
    let origins : place "Op" 0 ≡ place "Op" 1 = cc in
    let places : ◌≡◌ {A = ℕ} 0 1 = cc in
    omega (arith, places)

merged_are_not : AreExpansion alike (codes "__") (IsOneOf merged) → ⊥
merged_are_not e =
    let there = in_expansion (rule "S") (inr (inl refl)) in
    let p = e.every (rule "S") (by_op 0) (t "a" ∷ t "x" ∷ []) there (is_by_op 0 is_op_0) in
    let q = e.every (rule "S") (by_op 1) (t "a" ∷ t "x" ∷ []) there (is_by_op 1 is_op_1) in
    let same : p.0 ≡ q.0 = two_symbols p.0 p.1 p.2.right_is ∙ sym (two_symbols q.0 q.1 q.2.right_is) in
    by_ops_differ (sym p.2.label_is ∙ ap (λ (z : theory.Production). e.label_of z.action) same ∙ q.2.label_is)

-- One production more of `Op`, whose symbols the others have, isn't one of the expansion either: `Op` has two labels.
abbrev six : List theory.Production
six = production "Op" (word "a" ∷ []) 5 ∷ five

abbrev an_op : ℕ → theory.Production
an_op k = production "Op" (word "a" ∷ []) k

abbrev IsTwo : (ℕ → L) → theory.Production → Type 0
IsTwo label_of p = (label_of p.action ≡ op 0) ⊎ (label_of p.action ≡ op 1)

six_are_not : AreExpansion alike (codes "__") (IsOneOf six) → ⊥
six_are_not e = go (label (production "Op" (word "a" ∷ []) 5) (inl refl) refl)
    (label (production "Op" (word "a" ∷ []) 3) (inr (inr (inr (inr (inl refl))))) refl)
    (label (production "Op" (word "a" ∷ []) 4) (inr (inr (inr (inr (inr (inl refl)))))) refl)
  where
    there : InExpansion alike (rule "Op")
    there = in_expansion (rule "Op") (inr (inr (inl refl)))

    named : e.name_of (rule "Op") ≡ codes "Op"
    named = e.naming.rules _ (refl) refl

    two : (p : theory.Production) (l : L) (side : RightSide) → e.label_of p.action ≡ l → IsOp l side 0 ⊎ IsOp l side 1 →
        IsTwo e.label_of p
    two p l side f (inl r) = inl (f ∙ r.0)
    two p l side f (inr r) = inr (f ∙ r.0)

    label : (p : theory.Production) → IsOneOf six p → p.left ≡ codes "Op" → IsTwo e.label_of p
    label p i left =
        let q = e.no_other p i in
        let s = q.3 in
        let same : q.0 ≡ rule "Op" = e.naming.apart q.0 (rule "Op") s.in_expansion there (sym s.left_is ∙ left ∙ sym named) in
        two p q.1 q.2 s.label_is (of_Op q.1 q.2 (subst (λ x. IsAlike x q.1 q.2) same s.produced))

    one : (p q : theory.Production) → IsOneOf six p → IsOneOf six q → e.label_of p.action ≡ e.label_of q.action →
        (p.action ≡ q.action)
    one p q i j f = ap (λ (z : theory.Production). z.action) (e.once p q i j f)

    a_b : e.label_of 5 ≡ e.label_of 3 → ⊥
    a_b f = let k : ◌≡◌ {A = ℕ} 5 3 = one (an_op 5) (an_op 3) (inl refl) (inr (inr (inr (inr (inl refl))))) f in omega (arith, k)

    a_c : e.label_of 5 ≡ e.label_of 4 → ⊥
    a_c f =
        let k : ◌≡◌ {A = ℕ} 5 4 = one (an_op 5) (an_op 4) (inl refl) (inr (inr (inr (inr (inr (inl refl)))))) f in
        omega (arith, k)

    b_c : e.label_of 3 ≡ e.label_of 4 → ⊥
    b_c f =
        let k : ◌≡◌ {A = ℕ} 3 4 = one (an_op 3) (an_op 4) (inr (inr (inr (inr (inl refl)))))
        (inr (inr (inr (inr (inr (inl refl)))))) f in
        omega (arith, k)

    go : IsTwo e.label_of (an_op 5) → IsTwo e.label_of (an_op 3) → IsTwo e.label_of (an_op 4) → ⊥
    go (inl x) (inl y) z = a_b (x ∙ sym y)
    go (inr x) (inr y) z = a_b (x ∙ sym y)
    go (inl x) (inr y) (inl z) = a_c (x ∙ sym z)
    go (inl x) (inr y) (inr z) = b_c (y ∙ sym z)
    go (inr x) (inl y) (inl z) = b_c (y ∙ sym z)
    go (inr x) (inl y) (inr z) = a_c (x ∙ sym z)
