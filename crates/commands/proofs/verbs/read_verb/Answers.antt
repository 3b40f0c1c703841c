use Rattle.std.proofs.Common.{◌≡◌, codes, sym, ap, rules}
use Rattle.std.proofs.lemmas.Slice.Eq.{text_from_reads}
use Rattle.commands.specs.Verbs.{verb_of}
use Rattle.commands.proofs.verbs.read_verb.Goals as goal

pub returns-in-reader : goal.returns-in-reader
returns-in-reader c =
    let same : c.args.word.now ≡ codes "reader" = search (rules, text_from_reads) in
    ap verb_of (sym same)

pub returns-in-service : goal.returns-in-service
returns-in-service c =
    let same : c.args.word.now ≡ codes "service" = search (rules, text_from_reads) in
    ap verb_of (sym same)

pub returns-in-repeat : goal.returns-in-repeat
returns-in-repeat c =
    let same : c.args.word.now ≡ codes "repeat" = search (rules, text_from_reads) in
    ap verb_of (sym same)

pub returns-in-unlock : goal.returns-in-unlock
returns-in-unlock c =
    let same : c.args.word.now ≡ codes "unlock" = search (rules, text_from_reads) in
    ap verb_of (sym same)

pub returns-in-device : goal.returns-in-device
returns-in-device c =
    let same : c.args.word.now ≡ codes "device" = search (rules, text_from_reads) in
    ap verb_of (sym same)
