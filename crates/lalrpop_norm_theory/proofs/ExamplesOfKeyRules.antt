-- A computed example of a grammar whose keys have rules of their own, and rules that are refused.
use Prim.Native.String.{String}
use Rattle.std.specs.Fmt.{digits}
use Rattle.std.proofs.Common.{◌≡◌, ℕ, suc, List, [], ◌∷◌, refl, ap, sym, ◌∙◌, subst, Bool, true, false, inl, inr, arith}
use Rattle.std.specs.Prelude.{None, codes, map}
use Rattle.std.proofs.lemmas.Bool.{true≢false}
use Rattle.lalrpop_grammar_symbols.specs.Symbols.{Text, Closed, Closeds, Terminal, WrittenSymbol, Sym, Op, Argument}
use Rattle.lalrpop_grammar_symbols.specs.Texts.{escape_byte}
use Rattle.lalrpop_grammar.specs.WrittenGrammar.{Attr, Action, Alternative, ConditionTest, Origin, Rule, WrittenItem}
use Rattle.lalrpop_grammar_language.specs.Among.{Among}
use Rattle.lalrpop_grammar_language.specs.Enabled.{EnabledGrammar, EnabledRule, Choice, IsRule, choice_of, enabled_grammar}
use Rattle.lalrpop_grammar_language.specs.Levels.{has_levels}
use Rattle.lalrpop_grammar_language.specs.Expansion.{Nonterminal, InExpansion}
use Rattle.lalrpop_grammar_language.proofs.WrittenTreeLemmas.{here, lit, id, of_macro, maybe, alt, on_K, rule_of, macro_of, grammar, finds}
use Rattle.lalrpop_norm_theory.specs.Between.{grammar_between, rule_between}
use Rattle.lalrpop_norm_theory.specs.Keys.{leveled_key_text}
use Rattle.lalrpop_norm_theory.specs.Inlined.{IsInlined}
use Rattle.lalrpop_norm_theory.proofs.AmongLemmas.{all-among}
use Rattle.lalrpop_grammar_language.proofs.AmongLemmas.{map_among}
use Rattle.lalrpop_norm_theory.proofs.ExpansionListLemmas.{rule_there, all-of}
use Rattle.lalrpop_norm_theory.proofs.RowListLemmas.{reached-each}
use Rattle.lalrpop_norm_theory.proofs.NamingListLemmas.{naming-is}
use Rattle.lalrpop_norm_theory.specs.KeyRules.{IsKey, AreKeyChoices, IsKeyRule, IsMacroExpansion}

-- S = M<"a">?; M<K> = { K, "n" if K == "b" }
abbrev before : EnabledGrammar
before = enabled_grammar finds [] (grammar (rule_of "S" (alt (maybe (of_macro "M" (lit "a" ∷ [])) ∷ []) ∷ [])
    ∷ macro_of "M" ("K" ∷ []) (alt (id "K" ∷ []) ∷ on_K ConditionTest.equals "b" (lit "n" ∷ []) ∷ []) ∷ []))

abbrev nonterminal : String → WrittenSymbol
nonterminal n = Sym.nonterminal here (codes n)

abbrev by_choice : Origin → Action → List WrittenSymbol → Alternative
by_choice o action symbols = record (alt symbols) { origin = o; action = action }

abbrev rule_with : Bool → List Attr → String → List Alternative → Rule
rule_with public attributes n alternatives = record {
  public = public;
  name = codes n;
  attributes = attributes;
  span = here;
  parameters = [];
  declared = None;
  alternatives = alternatives;
}

abbrev quoted_a : List Argument
quoted_a = Sym.terminal tt (Terminal.quoted (codes "a")) ∷ []

abbrev user : Action
user = Action.user (codes "()")

abbrev after_S : Rule
after_S = rule_with true [] "S" (by_choice (Origin.alternative (codes "S") [] 0) user (nonterminal "M<\"a\">?" ∷ []) ∷ [])

abbrev after_option : Rule
after_option = rule_with false (Attr.empty here (codes "inline") ∷ []) "M<\"a\">?"
    (by_choice Origin.opt_some Action.default (nonterminal "M<\"a\">" ∷ []) ∷ by_choice Origin.opt_none Action.default [] ∷ [])

abbrev after_M : Rule
after_M = rule_with false [] "M<\"a\">" (by_choice (Origin.alternative (codes "M") quoted_a 0) user (lit "a" ∷ []) ∷ [])

abbrev after : EnabledGrammar
after = grammar_between finds (grammar (WrittenItem.nonterminal after_S ∷ WrittenItem.nonterminal after_option
    ∷ WrittenItem.nonterminal after_M ∷ []))

abbrev instance : Closed
instance = Closed.call (codes "M") (Closeds.more (Closed.terminal (Terminal.quoted (codes "a"))) Closeds.none) None

abbrev rule_S : Closed
rule_S = Closed.call (codes "S") Closeds.none None

abbrev option : Closed
option = Closed.repeat Op.question instance

abbrev keys : List Closed
keys = rule_S ∷ option ∷ instance ∷ []

abbrev nonterminals : List Nonterminal
nonterminals = Nonterminal.start (codes "S") ∷ map Nonterminal.closed keys

abbrev f : Closed → Text
f = leveled_key_text before

is_marked : List EnabledRule → Bool
is_marked [] = true
is_marked (r ∷ rs) = r.inlined

not_inlined : (x : Closed) (q : EnabledRule) → q.inlined ≡ false → (IsInlined before (Nonterminal.closed x) → ⊥) →
    ((q.inlined ≡ true) → IsInlined before (Nonterminal.closed x)) × (IsInlined before (Nonterminal.closed x) → (q.inlined ≡ true))
not_inlined x q e unmarked = (λ h. absurd (true≢false (sym h ∙ e)), λ h. absurd (unmarked h))

unmarked_S : IsInlined before (Nonterminal.closed rule_S) → ⊥
unfolding is_marked
unmarked_S h = let e : false ≡ true = ap is_marked h.1 ∙ h.2 in true≢false (sym e)

unmarked_M : IsInlined before (Nonterminal.closed instance) → ⊥
unfolding is_marked
unmarked_M h = let e : false ≡ true = ap is_marked h.1 ∙ h.2 in true≢false (sym e)

-- "a" isn't "b"
no_b : codes "a" ≡ codes "b" → ⊥
no_b e = let h : ◌≡◌ {A = ℕ} 97 98 = ap first e in omega (arith, h)
  where
    first : Text → ℕ
    first [] = 0
    first (c ∷ cs) = c

-- the alternative whose condition fails is left out
instance_choices : AreKeyChoices before f instance (
    map choice_of ((
      Origin.alternative (codes "M") quoted_a 0,
      by_choice (Origin.alternative (codes "M") quoted_a 0) user (lit "a" ∷ []),
    ) ∷ []))
unfolding digits escape_byte
instance_choices = (
  _,
  refl,
  refl,
  inl (
    tt,
    _,
    [],
    refl,
    record { origin = refl; unconditional = refl; symbols = ((refl, tt), tt) },
    inr (no_b, refl),
    refl,
  ),
)

rules : (x : Closed) → Among keys x → (q : EnabledRule) × IsRule after (f x) q × IsKeyRule before f x q
unfolding digits escape_byte instance_choices
rules = all-among (λ x. (q : EnabledRule) × IsRule after (f x) q × IsKeyRule before f x q) keys (
  (
    rule_between after_S,
    refl,
    record {
      no_macro = refl;
      no_levels = refl;
      inlined = not_inlined rule_S (rule_between after_S) refl unmarked_S;
      choices = (
        _,
        refl,
        refl,
        inl
            (tt, _, [], refl, record { origin = refl; unconditional = refl; symbols = ((refl, tt), tt) }, refl, refl),
      );
    },
  ),
  (
    (
      rule_between after_option,
      refl,
      record {
        no_macro = refl;
        no_levels = refl;
        inlined = (λ e. tt, λ h. refl);
        choices = (
          _,
          _,
          refl,
          record { origin = refl; unconditional = refl; symbols = ((refl, tt), tt) },
          record { origin = refl; unconditional = refl; symbols = tt },
          refl,
          refl,
        );
      },
    ),
    (
      (
        rule_between after_M,
        refl,
        record {
          no_macro = refl;
          no_levels = refl;
          inlined = not_inlined instance (rule_between after_M) refl unmarked_M;
          choices = instance_choices;
        },
      ),
      tt,
    ),
  ),
)

is_key : (x : Closed) → InExpansion before (Nonterminal.closed x) → Among keys x
is_key x i = go (all-of before nonterminals refl (Nonterminal.closed x) i)
  where
    go : Among nonterminals (Nonterminal.closed x) → Among keys x
    go (inl e) = cc
    go (inr (inl e)) = inl (let k : rule_S ≡ x = cc in k)
    go (inr (inr (inl e))) = inr (inl (let k : option ≡ x = cc in k))
    go (inr (inr (inr (inl e)))) = inr (inr (inl (let k : instance ≡ x = cc in k)))
    go (inr (inr (inr (inr h)))) = absurd h

key_reached : (x : Closed) → Among keys x → InExpansion before (Nonterminal.closed x)
key_reached x i =
    reached-each before 3 nonterminals refl (Nonterminal.closed x)
    (inr (map_among Nonterminal.closed keys x i))

keys_apart : (x y : Closed) → Among keys x → Among keys y → f x ≡ f y → x ≡ y
unfolding digits escape_byte
keys_apart x y i j e =
    let named = naming-is before f (codes "__") [] 3 nonterminals refl refl refl in
    let k : Nonterminal.closed x ≡ Nonterminal.closed y =
    named.apart (Nonterminal.closed x) (Nonterminal.closed y) (key_reached x i) (key_reached y j) e in
    cc

is_macro_expansion : IsMacroExpansion before after f keys
unfolding digits escape_byte
is_macro_expansion = record {
  no_levels = λ n r i. all-among (λ r. has_levels r ≡ false) before.rules (refl, (refl, tt)) r (rule_there before n r i).0;
  bares = refl;
  plain = plain;
  rules = rules;
  no_other = no_other;
  public = public;
  private = private;
  closed = λ x y o side i m h. is_key y (let k = key_reached x i in
      (suc k.0, (Nonterminal.closed x, o, side, k.1, m, h)));
  reached = key_reached;
  keys_only = all-among IsKey keys (tt, (tt, (tt, tt)));
  apart = keys_apart;
}
  where
    plain : (n : Text) (r : EnabledRule) → IsRule before n r → r.parameters ≡ [] →
        Among keys (Closed.call n Closeds.none None) × (f (Closed.call n Closeds.none None) ≡ n)
    plain n r i ps =
        let w = rule_there before n r i in
        subst (λ t. Among keys (Closed.call t Closeds.none None) × (f (Closed.call t Closeds.none None) ≡ t)) w.1
        (all-among (λ r. r.parameters ≡ [] → Among keys (Closed.call r.name Closeds.none None)
        × (f (Closed.call r.name Closeds.none None) ≡ r.name)) before.rules ((λ e. (inl refl, refl)), ((λ e. cc), tt)) r w.0 ps)

    no_other : (n : Text) (q : EnabledRule) → IsRule after n q → (x : Closed) × Among keys x × (n ≡ f x)
    no_other n q i =
        let w = rule_there after n q i in
        subst (λ t. (x : Closed) × Among keys x × (t ≡ f x)) w.1
        (all-among (λ q. (x : Closed) × Among keys x × (q.name ≡ f x)) after.rules
        ((rule_S, inl refl, refl), ((option, inr (inl refl), refl), ((instance, inr (inr (inl refl)), refl), tt))) q w.0)

    of_rule : (n : Text) (r : EnabledRule) → IsRule before n r → r.parameters ≡ [] → (r.public ≡ true) × (n ≡ codes "S")
    of_rule n r i ps =
        let w = rule_there before n r i in
        let a = all-among (λ r. r.parameters ≡ [] → (r.public ≡ true) × (r.name ≡ codes "S")) before.rules
        ((λ e. (refl, refl)), ((λ e. cc), tt)) r w.0 ps in
        (a.0, sym w.1 ∙ a.1)

    public_of : List EnabledRule → Bool
    public_of [] = false
    public_of (r ∷ rs) = r.public

    public : (n : Text) (r q : EnabledRule) → IsRule before n r → r.parameters ≡ [] → IsRule after n q → q.public ≡ r.public
    public n r q i ps j =
        let w = of_rule n r i ps in
        let k : IsRule after (codes "S") q = subst (λ t. IsRule after t q) w.1 j in
        let e : true ≡ q.public = ap public_of k in
        sym e ∙ sym w.0

    private : (x : Closed) (q : EnabledRule) → Among keys x → IsRule after (f x) q → q.public ≡ true →
        (n : Text) × (r : EnabledRule) × (x ≡ Closed.call n Closeds.none None) × IsRule before n r × (r.parameters ≡ [])
    private x q (inl e) j h = (codes "S", _, sym e, refl, refl)
    private x q (inr (inl e)) j h =
        let k : IsRule after (f option) q = subst (λ y. IsRule after (f y) q) (sym e) j in
        let g : false ≡ q.public = ap public_of k in
        absurd (true≢false (sym (g ∙ h)))
    private x q (inr (inr (inl e))) j h =
        let k : IsRule after (f instance) q = subst (λ y. IsRule after (f y) q) (sym e) j in
        let g : false ≡ q.public = ap public_of k in
        absurd (true≢false (sym (g ∙ h)))
    private x q (inr (inr (inr i))) j h = absurd i

-- `X?` as nothing first is refused, and user code that the pass adds
none_first_refused : (c d : Choice) → c.origin ≡ Origin.opt_none → AreKeyChoices before f option (c ∷ d ∷ []) → ⊥
none_first_refused c d e h =
    let same : c ≡ h.0 = cc in
    let o : Origin.opt_none ≡ Origin.opt_some = sym e ∙ ap (λ x. x.origin) same ∙ h.3.origin in cc

code_refused : (c d : Choice) → c.action ≡ user → AreKeyChoices before f option (c ∷ d ∷ []) → ⊥
code_refused c d e h =
    let same : c ≡ h.0 = cc in
    let a : user ≡ Action.default = sym e ∙ ap (λ x. x.action) same ∙ h.5 in cc
