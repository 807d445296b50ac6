-- One more rule, one more level, one more parameter; for the loops of the pass that names levels.
use Rattle.std.proofs.Common.{◌≡◌, ◌≢◌, ◌↔◌, ℕ, suc, Bool, true, false, cond, not, ◌||◌}
use Rattle.std.proofs.Common.{List, [], ◌∷◌, ◌++◌}
use Rattle.std.proofs.Common.{refl, ap, sym, ◌∙◌, map, Some, ◌-◌, arith}
use Rattle.std.specs.Prelude.{IsTrue, IfOk, OnOk, Result, Ok, Err, if◌then◌else◌}
use Rattle.std.specs.HashMap.{get_by}
use Rattle.std.specs.Map.{update}
use Rattle.std.specs.Str.{bytes_eq}
use Rattle.std.proofs.lemmas.List.{append_assoc}
use Rattle.lalrpop_grammar_symbols.specs.Symbols.{Text}
use Rattle.lalrpop_grammar_symbols.specs.declared.names.NonterminalString.{NonterminalString}
use Rattle.lalrpop_grammar.specs.WrittenGrammar.{Rule}
use Rattle.lalrpop_grammar_language.specs.Enabled.{has_text}
use Rattle.lalrpop_grammar_language.specs.Starts.{has_none}
use Rattle.lalrpop_grammar_language.proofs.ComparisonLemmas.{same_text-refl}
use Rattle.lalrpop_grammar_rules.specs.RuleTable.{Names, knows}
use Rattle.lalrpop_grammar_rules.proofs.BareNameLemmas.{one_name_more, same_text-sym}
use Rattle.lalrpop_norm_theory.specs.Keys.{with_number}
use Rattle.lalrpop_norm_theory.specs.LevelNames.{numbered_text}
use Rattle.lalrpop_norm_precedence.specs.GivenNames.{once_more, beside_parameters}
use Rattle.lalrpop_norm_precedence.specs.GivenNames.{Times, given_name, given_names, taken_behind, taken_behind_all}
use Rattle.lalrpop_norm_precedence.specs.GivenNames.{given_table, given_tables, taken_behind_rule}
use Rattle.lalrpop_norm_precedence.specs.GivenNames.{taken_behind_plain, taken_behind_macros}

-- a rule with parameters is a macro
pub plain_test : (b : Bool) (args : List NonterminalString) → (IsTrue b ↔ (args ≢ [])) → has_none (map (λ n. n.0) args) ≡ not b
plain_test true [] w = absurd (w.0 refl refl)
plain_test false [] w = refl
plain_test true (x ∷ xs) w = refl
plain_test false (x ∷ xs) w = let some : x ∷ xs ≡ [] → ⊥ = λ e. cc in w.1 some

-- where an answer is no fault, what follows from a property of it and two facts beside holds of it
pub holds_where_ok : {T E : Type 0} (r : Result T E) (P Q : T → Type 0) (A B : Type 0) → ((x : T) → P x → A → B → Q x) →
    IfOk r P → OnOk r A → OnOk r B → IfOk r Q
holds_where_ok (Ok x) P Q A B to p a b = to x p a b
holds_where_ok (Err e) P Q A B to p a b = tt

-- one more level

once-at : (text : Text) (times : Times) → once_more text times text ≡ suc (times text)
once-at text times = ap (λ b. cond b (suc (times text)) (times text)) (same_text-refl text)

-- a name with its number as it is given
pub name_given : (r : Rule) (j time : ℕ) (text name : Text) (times beside taken : Times) (own : Bool) →
    text ≡ numbered_text r.name j → own ≡ has_text text r.parameters →
    beside ≡ (if own then once_more text times else times) → taken ≡ once_more text beside → time ≡ taken text →
    name ≡ with_number text (time - 1) → name ≡ given_name r times j
name_given r j time text name times beside taken own is known sides more at named =
    let same : beside ≡ beside_parameters r.parameters text times =
    sides ∙ ap (λ b. if b then once_more text times else times) known in
    let next : time ≡ suc (beside_parameters r.parameters text times text) =
    at ∙ ap (λ f. f text) more ∙ once-at text beside ∙ ap (λ f. suc (f text)) same in
    let before : time - 1 ≡ beside_parameters r.parameters text times text = omega (arith, next) in
    named ∙ ap (with_number text) before ∙ ap (λ t. with_number t (beside_parameters r.parameters t times t)) is

module _ (r : Rule) (j : ℕ) (rest left : List ℕ) (before after : Times) (split : left ≡ j ∷ rest)
    (is : after ≡ taken_behind r before j) where
  pub level_named : (done whole : List (ℕ × Text)) (l : ℕ × Text) → l ≡ (j, given_name r before j) →
      done ++ given_names r before left ≡ whole → (done ++ l ∷ []) ++ given_names r after rest ≡ whole
  level_named done whole l named e =
      append_assoc done (l ∷ []) (given_names r after rest)
      ∙ ap (λ k. done ++ (k ∷ given_names r after rest)) named
      ∙ ap (λ times. done ++ ((j, given_name r before j) ∷ given_names r times rest)) is
      ∙ ap (λ js. done ++ given_names r before js) (sym split)
      ∙ e

  pub level_taken : (whole : Times) → taken_behind_all r before left ≡ whole → taken_behind_all r after rest ≡ whole
  level_taken whole e = ap (λ times. taken_behind_all r times rest) is ∙ ap (taken_behind_all r before) (sym split) ∙ e

-- one more rule

pub plain_front : (r : Rule) (rest : List Rule) (plain : Times) → taken_behind_plain (r ∷ rest) plain
    ≡ taken_behind_plain rest (if has_none r.parameters then taken_behind_rule r plain else plain)
plain_front r rest plain = go (has_none r.parameters)
  where
    go : (b : Bool) → cond b (taken_behind_plain rest (taken_behind_rule r plain)) (taken_behind_plain rest plain)
        ≡ taken_behind_plain rest (if b then taken_behind_rule r plain else plain)
    go true = refl
    go false = refl

macros_front : (r : Rule) (rest : List Rule) (macros : Times) → taken_behind_macros (r ∷ rest) macros
    ≡ taken_behind_macros rest (if has_none r.parameters then macros else taken_behind_rule r macros)
macros_front r rest macros = go (has_none r.parameters)
  where
    go : (b : Bool) → cond b (taken_behind_macros rest macros) (taken_behind_macros rest (taken_behind_rule r macros))
        ≡ taken_behind_macros rest (if b then macros else taken_behind_rule r macros)
    go true = refl
    go false = refl

tables_front : (r : Rule) (rest : List Rule) (plain macros : Times) → given_tables (r ∷ rest) plain macros
    ≡ given_table r (if has_none r.parameters then plain else macros)
    ∷ given_tables rest (if has_none r.parameters then taken_behind_rule r plain else plain)
    (if has_none r.parameters then macros else taken_behind_rule r macros)
tables_front r rest plain macros = go (has_none r.parameters)
  where
    go : (b : Bool) → cond b (given_table r plain ∷ given_tables rest (taken_behind_rule r plain) macros)
        (given_table r macros ∷ given_tables rest plain (taken_behind_rule r macros))
        ≡ given_table r (if b then plain else macros)
        ∷ given_tables rest (if b then taken_behind_rule r plain else plain) (if b then macros else taken_behind_rule r macros)
    go true = refl
    go false = refl

module _ (r : Rule) (rest left : List Rule) (split : left ≡ r ∷ rest) where
  pub plain_taken : (before after whole : Times) → after ≡ (if has_none r.parameters then taken_behind_rule r before else before) →
      taken_behind_plain left before ≡ whole → taken_behind_plain rest after ≡ whole
  plain_taken before after whole is e =
      ap (taken_behind_plain rest) is ∙ sym (plain_front r rest before) ∙ ap (λ l. taken_behind_plain l before) (sym split) ∙ e

  pub macros_taken : (before after whole : Times) → after ≡ (if has_none r.parameters then before else taken_behind_rule r before) →
      taken_behind_macros left before ≡ whole → taken_behind_macros rest after ≡ whole
  macros_taken before after whole is e =
      ap (taken_behind_macros rest) is ∙ sym (macros_front r rest before) ∙ ap (λ l. taken_behind_macros l before) (sym split) ∙ e

  pub rule_named : (plain macros plain' macros' : Times) (done whole : List (List (ℕ × Text))) (t : List (ℕ × Text)) →
      t ≡ given_table r (if has_none r.parameters then plain else macros) →
      plain' ≡ (if has_none r.parameters then taken_behind_rule r plain else plain) →
      macros' ≡ (if has_none r.parameters then macros else taken_behind_rule r macros) →
      done ++ given_tables left plain macros ≡ whole → (done ++ t ∷ []) ++ given_tables rest plain' macros' ≡ whole
  rule_named plain macros plain' macros' done whole t named is are e =
      append_assoc done (t ∷ []) (given_tables rest plain' macros')
      ∙ ap (λ u. done ++ (u ∷ given_tables rest plain' macros')) named
      ∙ ap (λ p. done ++ (given_table r (if has_none r.parameters then plain else macros) ∷ given_tables rest p macros')) is
      ∙ ap (λ m. done ++ (given_table r (if has_none r.parameters then plain else macros)
      ∷ given_tables rest (if has_none r.parameters then taken_behind_rule r plain else plain) m)) are
      ∙ ap (λ ts. done ++ ts) (sym (tables_front r rest plain macros))
      ∙ ap (λ l. done ++ given_tables l plain macros) (sym split)
      ∙ e

-- one more parameter

or_over : (a b c : Bool) → (a || (b || c)) ≡ ((a || b) || c)
or_over true b c = refl
or_over false b c = refl

-- when one more parameter is put among the known names, these and the parameters left are the same names together
pub parameter_known : (before after : Names) (name : Text) (rest left whole : List Text) → left ≡ name ∷ rest →
    ((n : Text) → get_by (λ k. bytes_eq n k.now) after
    ≡ update bytes_eq (λ m. get_by (λ k. bytes_eq m k.now) before) name (Some tt) n) →
    ((n : Text) → has_text n whole ≡ (knows before n || has_text n left)) →
    (n : Text) → has_text n whole ≡ (knows after n || has_text n rest)
parameter_known before after name rest left whole split new e n =
    e n ∙ ap (λ l. knows before n || has_text n l) split
    ∙ or_over (knows before n) (bytes_eq n name) (has_text n rest)
    ∙ ap (λ b. (knows before n || b) || has_text n rest) (same_text-sym n name)
    ∙ ap (λ b. b || has_text n rest) (sym (one_name_more before after name new n))
