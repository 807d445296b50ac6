use Rattle.std.proofs.Common.{rules, ◌∷◌, [], ap, ap₂, sym, ◌∙◌, false, arith, subst, Some}
use Rattle.std.specs.Option.{option_map}
use Rattle.std.specs.Fmt.{DisplaysOnOk, ◌++?◌, padded_integral, shown_prefix, radix_prefix}
use Rattle.std.proofs.Output.{has_written_of_eq}
use Rattle.std.proofs.lemmas.Fmt.{hex_byte}
use Rattle.json.specs.Print.{escape_byte}
use Rattle.lalrpop_json_values.proofs.EscapeLemmas.{escaped_byte-control}
use Rattle.lalrpop_json_values.proofs.json_text.write_control.Goals as goal

pub returns-in_default : goal.returns-in_default
returns-in_default g c plain ok =
    let e = escaped_byte-control c.args.code (omega arith) (λ h. omega arith) (λ h. omega arith) (λ h. omega arith) (λ h. omega arith)
    (λ h. omega arith) in
    let base = c.in_radix.result.base in
    let shown =
    ap₂ (λ s o. option_map (padded_integral s false (shown_prefix s (radix_prefix base))) o) c.laid_out.ensures c.in_radix.ensures in
    let written = subst (λ o. DisplaysOnOk g.W.Write.write_str_gives c.args.f.now c.write.result
    (Some (92 ∷ 117 ∷ 48 ∷ 48 ∷ []) ++? o) c.write.new.self) shown c.write.ensures.writes in
    has_written_of_eq _ _ _ _ _ (ap (λ ds. 92 ∷ 117 ∷ 48 ∷ 48 ∷ ds) (hex_byte false c.args.code (omega arith)) ∙ sym e)
    (written plain ok)

pub returns-in-8 : goal.returns-in-8
unfolding escape_byte
returns-in-8 g c = rw (ap escape_byte c.in-8.is) (search rules)

pub returns-in-9 : goal.returns-in-9
unfolding escape_byte
returns-in-9 g c = rw (ap escape_byte c.in-9.is) (search rules)

pub returns-in-10 : goal.returns-in-10
unfolding escape_byte
returns-in-10 g c = rw (ap escape_byte c.in-10.is) (search rules)

pub returns-in-12 : goal.returns-in-12
unfolding escape_byte
returns-in-12 g c = rw (ap escape_byte c.in-12.is) (search rules)

pub returns-in-13 : goal.returns-in-13
unfolding escape_byte
returns-in-13 g c = rw (ap escape_byte c.in-13.is) (search rules)
