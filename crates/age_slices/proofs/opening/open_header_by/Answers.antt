use Rattle.std.proofs.Common.{◌≡◌, Some, None, Ok, Err, IsTrue, inl, refl, rules}
use Rattle.age.specs.DecryptErrors.{decrypt_refusal}
use Rattle.age.specs.HeaderMac.{header_mac}
use Rattle.age.specs.Header.{covered_text}
use Rattle.age_slices.proofs.Fronts.{key_is, no_front, refused, told, too_short}
use Rattle.age_slices.proofs.opening.open_header_by.Goals as goal

pub returns-in-Ok-None : goal.returns-in-Ok-None
returns-in-Ok-None g c =
    too_short c.canonical_text_reads_back.ensures.reads c.verdict_is_unique.ensures c.args.front.now g.I.Identity.unwraps c.args.identities.now
    c.args.identities.now
    (rw c.in-Ok-None.field-0-is at c.in-Ok-None.ensures)

pub returns-in-Err : goal.returns-in-Err
returns-in-Err g c =
    no_front c.canonical_text_reads_back.ensures.reads c.verdict_is_unique.ensures c.args.front.now g.I.Identity.unwraps c.args.identities.now
    c.args.identities.now
    c.in-Err.error c.in-Err.ensures

pub returns-in-None : goal.returns-in-None
returns-in-None g c =
    refused c.canonical_text_reads_back.ensures.reads c.verdict_is_unique.ensures c.args.front.now g.I.Identity.unwraps c.args.identities.now
    c.first_answer.new.identities c.in-Ok-Some.found.header c.in-Ok-Some.found.nonce (rw c.in-Ok-Some.field-0-is at c.in-Ok-Some.ensures).0 None
    (rw c.stanzas.ensures.stanzas at c.in-None.ensures) _ refl

pub returns-in-Some-Err : goal.returns-in-Some-Err
returns-in-Some-Err g c =
    refused c.canonical_text_reads_back.ensures.reads c.verdict_is_unique.ensures c.args.front.now g.I.Identity.unwraps c.args.identities.now
    c.first_answer.new.identities c.in-Ok-Some.found.header c.in-Ok-Some.found.nonce (rw c.in-Ok-Some.field-0-is at c.in-Ok-Some.ensures).0
    (Some (Err (decrypt_refusal c.in-Some-Err.error)))
    (rw c.stanzas.ensures.stanzas at (rw c.in-Some-Err.field-0-is at c.in-Some-Err.ensures)) c.in-Some-Err.error refl

pub returns-then-not-verify_mac : goal.returns-then-not-verify_mac
returns-then-not-verify_mac g c =
    refused c.canonical_text_reads_back.ensures.reads c.verdict_is_unique.ensures c.args.front.now g.I.Identity.unwraps c.args.identities.now
    c.first_answer.new.identities c.in-Ok-Some.found.header c.in-Ok-Some.found.nonce (rw c.in-Ok-Some.field-0-is at c.in-Ok-Some.ensures).0
    (Some (Ok c.in-Some-Ok.file_key))
    (rw c.stanzas.ensures.stanzas at (rw c.in-Some-Ok.field-0-is at c.in-Some-Ok.ensures)) _ (inl ((search rules), refl))

pub returns : goal.returns
returns g c =
    let yes : IsTrue c.verify_mac.result = search rules in
    let right : c.in-Ok-Some.found.header.mac ≡ header_mac c.in-Some-Ok.file_key (covered_text c.in-Ok-Some.found.header.stanzas) =
    c.verify_mac.ensures.0 yes in
    told c.canonical_text_reads_back.ensures.reads c.verdict_is_unique.ensures c.args.front.now g.I.Identity.unwraps c.args.identities.now
    c.first_answer.new.identities c.in-Ok-Some.found.header c.in-Ok-Some.found.nonce
    (rw c.in-Ok-Some.field-0-is at c.in-Ok-Some.ensures).0 c.in-Some-Ok.file_key
    (rw c.stanzas.ensures.stanzas at (rw c.in-Some-Ok.field-0-is at c.in-Some-Ok.ensures)) right _
    (key_is c.in-Some-Ok.file_key c.in-Ok-Some.found.nonce c.hkdf.result (rw c.expose_secret.ensures.bytes at c.hkdf.ensures))
    (rw c.in-Ok-Some.field-0-is at c.in-Ok-Some.ensures).1
