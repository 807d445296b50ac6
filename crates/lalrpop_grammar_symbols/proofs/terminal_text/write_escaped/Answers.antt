use Rattle.std.proofs.Common.{◌≡◌, ◌≤◌, ◌++◌, ◌∙◌, ap, sym, rules, arith, length, length-append, append_assoc, refl}
use Rattle.std.specs.Prelude.{take, drop, encode_utf8}
use Rattle.std.proofs.Math.Seq.{take-append_seam, drop-append_seam}
use Rattle.std.proofs.lemmas.Grind.{put_two}
use Rattle.std.proofs.lemmas.List.Concat.{flat_map-append}
use Rattle.std.proofs.lemmas.Str.{IsCharBoundary-from_take}
use Rattle.lalrpop_grammar_symbols.specs.Texts.{escape_byte, escape}
use Rattle.lalrpop_grammar_symbols.proofs.terminal_text.write_escaped.Goals as goal

pub range_from-rest-requires : goal.range_from-rest-requires
range_from-rest-requires g c = λ _.
    let parts = c.plain_front-plain.ensures.front in
    let size : length c.plain_front-plain.result.now ≤ length c.rest.rest.now =
    omega (arith, ap length parts.1, length-append c.plain_front-plain.result.now parts.0) in
    let front : take (length c.plain_front-plain.result.now) c.rest.rest.now ≡ c.plain_front-plain.result.now =
    ap (take (length c.plain_front-plain.result.now)) parts.1 ∙ take-append_seam c.plain_front-plain.result.now parts.0 in
    IsCharBoundary-from_take c.rest.rest.now (length c.plain_front-plain.result.now) c.rest.invariant.0 size
    (rw front c.plain_front-plain.utf8)

pub rest-preserved-in-Some : goal.rest-preserved-in-Some
rest-preserved-in-Some g c =
    let seen = c.rest.invariant.1 in
    let plain = c.plain_front-plain.result.now in
    let parts = c.plain_front-plain.ensures.front in
    let behind : c.range_from-rest.result.now ≡ parts.0 =
    c.range_from-rest.ensures.value ∙ ap (drop (length plain)) parts.1 ∙ drop-append_seam plain parts.0 in
    let step : c.rest.rest.now ≡ plain ++ (encode_utf8 c.in-Some.c ++ c.as_str-rest.result.now) =
    parts.1 ∙ ap (λ t. plain ++ t) (sym behind ∙ sym c.chars-left.ensures.rest ∙ c.in-Some.ensures.steps.0
    ∙ ap (λ t. encode_utf8 c.in-Some.c ++ t) (sym c.as_str-rest.ensures)) in
    let all = seen.0 ++ (plain ++ encode_utf8 c.in-Some.c) in
    let says : escape seen.0 ++ (plain ++ escape (encode_utf8 c.in-Some.c)) ≡ escape all =
    ap (λ t. escape seen.0 ++ (t ++ escape (encode_utf8 c.in-Some.c))) (sym c.plain_front-plain.ensures.plain)
    ∙ ap (λ t. escape seen.0 ++ t) (sym (flat_map-append escape_byte plain (encode_utf8 c.in-Some.c)))
    ∙ sym (flat_map-append escape_byte seen.0 (plain ++ encode_utf8 c.in-Some.c)) in (
      c.as_str-rest.utf8,
      (
        all,
        seen.1 ∙ ap (λ t. seen.0 ++ t) (step ∙ sym (append_assoc plain (encode_utf8 c.in-Some.c) c.as_str-rest.result.now))
            ∙ sym (append_assoc seen.0 (plain ++ encode_utf8 c.in-Some.c) c.as_str-rest.result.now),
        λ p.
            put_two g.W.Write.write_str_gives c.args.f.now c.rest.f c.write_escaped_char.new.f (escape seen.0)
            (plain ++ escape (encode_utf8 c.in-Some.c)) (escape all) (seen.2 p)
            (put_two g.W.Write.write_str_gives c.rest.f c.write_str.new.self c.write_escaped_char.new.f plain
            (escape (encode_utf8 c.in-Some.c)) (plain ++ escape (encode_utf8 c.in-Some.c)) (search rules) (search rules) refl) says,
      ),
    )
