use Rattle.std.proofs.Common.{◌∷◌, []}
use Rattle.std.specs.Str.{chars}
use Rattle.sbl_text.proofs.Nexts.{after_first}
use Rattle.sbl_text.proofs.meanings.pair_fault.Goals as goal

pub place_of-requires : goal.place_of-requires
place_of-requires c = (c.in-Some.c ∷ [], c.in-Some.ensures.parts)

pub returns-else-c-eq39 : goal.returns-else-c-eq39
returns-else-c-eq39 c =
    after_first (chars c.args.text.now) (chars c.in-Some.rest.now) c.in-Some.c c.args.place c.place_of.result c.in-Some.ensures.parts c.if-c-eq39.false
    (c.place_of.ensures.place (c.in-Some.c ∷ []) c.in-Some.ensures.parts)
