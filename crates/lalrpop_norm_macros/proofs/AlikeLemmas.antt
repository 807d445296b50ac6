-- What the table of rules says is said of the grammar between two passes: called rules, right sides, conditions, declared types and
-- arguments; for the rules of keys.
use Rattle.std.proofs.Common.{◌≡◌, ℕ, List, [], ◌∷◌, refl, ap, sym, ◌∙◌, subst, cond, inl, inr, map}
use Rattle.std.specs.Prelude.{Bool, true, false, Option, Some, None, filter, if◌then◌else◌}
use Rattle.std.specs.Str.{bytes_eq}
use Rattle.lalrpop_grammar_symbols.specs.Symbols.{Text, Terminal, Closed, Closeds, Sym, Syms, WrittenSymbol, syms}
use Rattle.lalrpop_grammar.specs.Trees.{as_argument, as_arguments}
use Rattle.lalrpop_grammar.specs.WrittenGrammar.{Alternative, Condition, ConditionTest, Grammar, Rule, Ty, Tys, rules_of}
use Rattle.lalrpop_grammar_language.specs.Among.{Among}
use Rattle.lalrpop_grammar_language.specs.Enabled.{EnabledGrammar, EnabledRule, choice_of, enabled_grammar, enabled_rule, has_name}
use Rattle.lalrpop_grammar_language.specs.Enabled.{is_active}
use Rattle.lalrpop_grammar_language.specs.Levels.{allowed_level, has_levels, loosest}
use Rattle.lalrpop_grammar_language.specs.Closing.{Binding, Scope, close, close_list, occurrences_in, parameter_value, right_side}
use Rattle.lalrpop_grammar_language.specs.Closing.{sound_or_faulty}
use Rattle.lalrpop_grammar_language.specs.Conditions.{Holds, HoldsOf, PassesTest}
use Rattle.lalrpop_grammar_language.specs.Admitting.{argument_list}
use Rattle.lalrpop_norm_theory.specs.Between.{grammar_between, name_in_origins, rule_between, written_name}
use Rattle.lalrpop_norm_theory.proofs.LevelLemmas.{no_loosest}
use Rattle.lalrpop_norm_theory.specs.KeyTypes.{ArePutTypes, IsPutDeclaration, IsPutType, IsSymbolType}
use Rattle.lalrpop_norm_keys.specs.TableLaws.{HasAllActive}
use Rattle.lalrpop_norm_keys.proofs.OriginLemmas.{close_list_same}
use Rattle.lalrpop_norm_keys.proofs.PlainGrammarLemmas.{table_alike}
use Rattle.lalrpop_norm_macros.specs.InstanceRules.{flat_side}
use Rattle.lalrpop_norm_macros.specs.KeyDeclarations.{declaration_scope}
use Rattle.lalrpop_norm_macros.specs.WrittenRules.{first_written, spelled_by}

-- called rules

module _ (features : List Text) (n : Text) where
  abbrev Enabled : List Rule → List EnabledRule
  Enabled rs = map (enabled_rule features) (filter (λ r. is_active features r.attributes) rs)

  no_rule : (rs : List Rule) → HasAllActive features rs → filter (has_name n) (map rule_between rs) ≡ []
      → filter (has_name n) (Enabled rs) ≡ []
  no_rule [] active e = refl
  no_rule (r ∷ rs) active e =
      ap (λ c. filter (has_name n) (map (enabled_rule features) (cond c (r ∷ filter (λ q. is_active features q.attributes) rs)
      (filter (λ q. is_active features q.attributes) rs)))) (active r (inl refl)).rule
      ∙ go (bytes_eq r.name n) e (λ k. no_rule rs (λ q i. active q (inr i)) k)
    where
      go : (b : Bool) → cond b (rule_between r ∷ filter (has_name n) (map rule_between rs))
          (filter (has_name n) (map rule_between rs)) ≡ []
          → (filter (has_name n) (map rule_between rs) ≡ [] → filter (has_name n) (Enabled rs) ≡ [])
          → cond b (enabled_rule features r ∷ filter (has_name n) (Enabled rs)) (filter (has_name n) (Enabled rs)) ≡ []
      go true k later = cc
      go false k later = later k

  -- the one rule of the name is the one that is found, and the table has it
  pub called : (rs : List Rule) (q : EnabledRule) → HasAllActive features rs → filter (has_name n) (map rule_between rs) ≡ q ∷ []
      → (r : Rule) × (first_written n rs ≡ Some r) × Among rs r × (rule_between r ≡ q)
      × (filter (has_name n) (Enabled rs) ≡ enabled_rule features r ∷ [])
  called [] q active e = cc
  called (r ∷ rs) q active e =
      go (bytes_eq r.name n) refl e (λ k. called rs q (λ p i. active p (inr i)) k) (λ k. no_rule rs (λ p i. active p (inr i)) k)
    where
      kept : filter (has_name n) (Enabled (r ∷ rs))
          ≡ cond (bytes_eq r.name n) (enabled_rule features r ∷ filter (has_name n) (Enabled rs)) (filter (has_name n) (Enabled rs))
      kept =
          ap (λ c. filter (has_name n) (map (enabled_rule features) (cond c (r ∷ filter (λ p. is_active features p.attributes) rs)
          (filter (λ p. is_active features p.attributes) rs)))) (active r (inl refl)).rule

      go : (b : Bool) → bytes_eq r.name n ≡ b
          → cond b (rule_between r ∷ filter (has_name n) (map rule_between rs)) (filter (has_name n) (map rule_between rs)) ≡ q ∷ []
          → (filter (has_name n) (map rule_between rs) ≡ q ∷ [] → (p : Rule) × (first_written n rs ≡ Some p) × Among rs p
          × (rule_between p ≡ q) × (filter (has_name n) (Enabled rs) ≡ enabled_rule features p ∷ []))
          → (filter (has_name n) (map rule_between rs) ≡ [] → filter (has_name n) (Enabled rs) ≡ [])
          → (p : Rule) × (first_written n (r ∷ rs) ≡ Some p) × Among (r ∷ rs) p × (rule_between p ≡ q)
          × (filter (has_name n) (Enabled (r ∷ rs)) ≡ enabled_rule features p ∷ [])
      go true c k later none = (
        r,
        ap (λ b. if b then Some r else first_written n rs) c,
        inl refl,
        cc,
        kept ∙ ap (λ b. cond b (enabled_rule features r ∷ filter (has_name n) (Enabled rs)) (filter (has_name n) (Enabled rs))) c
            ∙ ap (λ l. enabled_rule features r ∷ l) (none (cc)),
      )
      go false c k later none =
          let v = later k in (
            v.0,
            ap (λ b. if b then Some r else first_written n rs) c ∙ v.1,
            inr v.2,
            v.3,
            kept ∙ ap (λ b. cond b (enabled_rule features r ∷ filter (has_name n) (Enabled rs)) (filter (has_name n) (Enabled rs))) c
                ∙ v.4,
          )

-- the name under which a rule was written
pub spelled_alike : (n : Text) (rs : List Rule) → spelled_by (first_written n rs) n ≡ written_name rs n
spelled_alike n [] = refl
spelled_alike n (r ∷ rs) = go (bytes_eq r.name n) (spelled_alike n rs)
  where
    go : (b : Bool) → spelled_by (first_written n rs) n ≡ written_name rs n
        → spelled_by (cond b (Some r) (first_written n rs)) n
        ≡ cond b (name_in_origins n (map (λ a. a.origin) r.alternatives)) (written_name rs n)
    go true e = refl
    go false e = e

-- arguments, where rules are spelled alike
module _ (f h : Text → Text) (same : (n : Text) → f n ≡ h n) where
  mutual
    argument_alike : (x : Closed) → as_argument f x ≡ as_argument h x
    argument_alike (Closed.terminal (Terminal.quoted t)) = refl
    argument_alike (Closed.terminal (Terminal.regex t)) = refl
    argument_alike (Closed.terminal (Terminal.bare n)) = refl
    argument_alike (Closed.terminal Terminal.error) = refl
    argument_alike (Closed.call n Closeds.none level) = ap (λ t. Sym.ambiguous_id tt t) (same n)
    argument_alike (Closed.call n (Closeds.more x xs) level) =
        ap (λ t. Sym.macro tt t (Syms.more (as_argument f x) (as_arguments f xs))) (same n)
        ∙ ap (λ y. Sym.macro tt (h n) (Syms.more y (as_arguments f xs))) (argument_alike x)
        ∙ ap (λ ys. Sym.macro tt (h n) (Syms.more (as_argument h x) ys)) (arguments_alike xs)
    argument_alike (Closed.repeat op x) = ap (Sym.repeat tt op) (argument_alike x)
    argument_alike (Closed.group xs) = ap (Sym.expr tt) (arguments_alike xs)
    argument_alike (Closed.choose x) = ap (Sym.choose tt) (argument_alike x)
    argument_alike (Closed.name m n x) = ap (Sym.name tt m n) (argument_alike x)
    argument_alike Closed.lookahead = refl
    argument_alike Closed.lookbehind = refl
    argument_alike Closed.faulty = refl

    arguments_alike : (xs : Closeds) → as_arguments f xs ≡ as_arguments h xs
    arguments_alike Closeds.none = refl
    arguments_alike (Closeds.more x xs) =
        ap (λ y. Syms.more y (as_arguments f xs)) (argument_alike x) ∙ ap (λ ys. Syms.more (as_argument h x) ys) (arguments_alike xs)

  pub listed_alike : (xs : Closeds) → argument_list f xs ≡ argument_list h xs
  listed_alike Closeds.none = refl
  listed_alike (Closeds.more x xs) =
      ap (λ y. y ∷ argument_list f xs) (argument_alike x) ∙ ap (λ ys. as_argument h x ∷ ys) (listed_alike xs)

-- conditions ask of the grammar how patterns are found, and nothing else
pub holds_alike : (g h : EnabledGrammar) → h.finds ≡ g.finds → (b : Binding) (o : Option Condition) → Holds g b o → Holds h b o
holds_alike g h e b None m = tt
holds_alike g h e b (Some c) m = of_value (parameter_value b c.parameter) m
  where
    of_test : (t : ConditionTest) (text : Text) → PassesTest g t text c.against → PassesTest h t text c.against
    of_test ConditionTest.equals text p = p
    of_test ConditionTest.not_equals text p = p
    of_test ConditionTest.matches text p = ap (λ f. f c.against text) e ∙ p
    of_test ConditionTest.not_matches text p = ap (λ f. f c.against text) e ∙ p

    of_value : (v : Option Closed) → HoldsOf g c v → HoldsOf h c v
    of_value (Some (Closed.terminal (Terminal.quoted t))) p = of_test c.test t p
    of_value (Some (Closed.terminal (Terminal.regex t))) p = p
    of_value (Some (Closed.terminal (Terminal.bare n))) p = p
    of_value (Some (Closed.terminal Terminal.error)) p = p
    of_value (Some (Closed.call n args level)) p = p
    of_value (Some (Closed.repeat op x)) p = p
    of_value (Some (Closed.group xs)) p = p
    of_value (Some (Closed.choose x)) p = p
    of_value (Some (Closed.name mutable n x)) p = p
    of_value (Some Closed.lookahead) p = p
    of_value (Some Closed.lookbehind) p = p
    of_value (Some Closed.faulty) p = p
    of_value None p = p

-- right sides and types of a rule without levels
module _ (finds : Text → Text → Option Bool) (features : List Text) (w : Grammar) (active : HasAllActive features (rules_of w.items))
    (written : Rule) (b : Binding) (flat : has_levels (enabled_rule features written) ≡ false)
    (between : has_levels (rule_between written) ≡ false) where
  abbrev t : EnabledGrammar
  t = enabled_grammar finds features w

  abbrev g : EnabledGrammar
  g = grammar_between finds w

  abbrev with_levels : EnabledGrammar → (ℕ → Option ℕ) → Scope
  with_levels h level = record { grammar = h; binding = b; owner = written.name; level_at = level }

  closed_alike : (one two : ℕ → Option ℕ) → ((k : ℕ) → one k ≡ None) → ((k : ℕ) → two k ≡ None)
      → (xs : List WrittenSymbol)
      → close_list (with_levels t one) 0 xs ≡ close_list (with_levels g two) 0 xs
  closed_alike one two one_none two_none xs =
      close_list_same t b written.name one (λ k. None) one_none 0 xs
      ∙ ap (λ h. close_list (with_levels h (λ k. None)) 0 xs) (table_alike finds features w active)
      ∙ sym (close_list_same g b written.name two (λ k. None) two_none 0 xs)

  pub side_alike : (a : Alternative) → flat_side t (enabled_rule features written) b a
      ≡ right_side g (rule_between written) b (choice_of (a.origin, a), None)
  side_alike a =
      closed_alike (allowed_level (enabled_rule features written) None (occurrences_in b written.name (syms a.expr)))
      (allowed_level (rule_between written) None (occurrences_in b written.name (syms a.expr)))
      (λ k. no_loosest (enabled_rule features written) flat) (λ k. no_loosest (rule_between written) between) a.expr

  type_alike : (x : WrittenSymbol) → sound_or_faulty (close (declaration_scope t (enabled_rule features written) b) 0 x)
      ≡ sound_or_faulty (close (declaration_scope g (rule_between written) b) 0 x)
  type_alike x =
      let e = closed_alike (λ k. loosest (enabled_rule features written)) (λ k. loosest (rule_between written))
      (λ k. no_loosest (enabled_rule features written) flat) (λ k. no_loosest (rule_between written) between) (x ∷ []) in cc

  module _ (f : Closed → Text) (keys : List Closed) where
    mutual
      put_alike : (y z : Ty) → IsPutType g.bares f keys (declaration_scope t (enabled_rule features written) b) y z
          → IsPutType g.bares f keys (declaration_scope g (rule_between written) b) y z
      put_alike (Ty.tuple ys) z (zs, e, m) = (zs, e, all_put_alike ys zs m)
      put_alike (Ty.nominal path ys) z (zs, e, m) = (zs, e, all_put_alike ys zs m)
      put_alike (Ty.id n) z m = m
      put_alike (Ty.of_symbol x) z m = subst (λ c. IsSymbolType g.bares f keys c z) (type_alike x) m
      put_alike (Ty.ref lifetime mutable y) z (u, e, m) = (u, e, put_alike y u m)
      put_alike (Ty.opaque text) z m = m

      all_put_alike : (ys zs : Tys) → ArePutTypes g.bares f keys (declaration_scope t (enabled_rule features written) b) ys zs
          → ArePutTypes g.bares f keys (declaration_scope g (rule_between written) b) ys zs
      all_put_alike Tys.none zs m = m
      all_put_alike (Tys.more y ys) zs (u, us, e, m, more) = (u, us, e, put_alike y u m, all_put_alike ys us more)

    pub declaration_alike : (y z : Option Ty)
        → IsPutDeclaration g.bares f keys (declaration_scope t (enabled_rule features written) b) y z
        → IsPutDeclaration g.bares f keys (declaration_scope g (rule_between written) b) y z
    declaration_alike None z m = m
    declaration_alike (Some y) z (u, e, m) = (u, e, put_alike y u m)
