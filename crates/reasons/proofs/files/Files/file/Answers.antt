-- `file`: the place goes on in the row of the name (`filed_concept`, `filed_role`).
use mathlib.Core.Path.{ap, ◌∙◌, subst}
use native.Mathlib.Omega.{arith}
use lib.ListN.{length-set}
use Rattle.std.specs.Prelude.{List, ℕ, ◌<◌, Some}
use Rattle.reasons.specs.Names.{IsShort}
use Rattle.reasons.proofs.FileLaws.{filed_concept, filed_role}
use Rattle.reasons.proofs.files.Files.file.Goals as goal

pub bounds-self-x : goal.bounds-self-x
bounds-self-x c = let k = c.in-Some-Concept in subst IsShort (rw k.is at k.field-0-is) (c.requires.0 _ k.is)

pub bounds-self-r : goal.bounds-self-r
bounds-self-r c = let k = c.in-Some-Role in subst IsShort (rw k.is at k.field-0-is) (c.requires.0 _ k.is)

pub returns-in-Some-Concept : goal.returns-in-Some-Concept
returns-in-Some-Concept c =
    let k = c.in-Some-Concept in
    let e = rw k.is at k.field-0-is in
    let few : k.x < 64 = subst IsShort e (c.requires.0 _ k.is) in
    filed_concept _ _ _ _ _ (k.is ∙ ap Some e) (omega (arith, c.mark.array_long.0, length-set {A = List ℕ})) c.mark.ensures

pub returns-in-Some-Role : goal.returns-in-Some-Role
returns-in-Some-Role c =
    let k = c.in-Some-Role in
    let e = rw k.is at k.field-0-is in
    let few : k.r < 64 = subst IsShort e (c.requires.0 _ k.is) in
    filed_role _ _ _ _ _ (k.is ∙ ap Some e) (omega (arith, c.mark-in-Some-Role.array_long.1, length-set {A = List ℕ})) c.mark-in-Some-Role.ensures
