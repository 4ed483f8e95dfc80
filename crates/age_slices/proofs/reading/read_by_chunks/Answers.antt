use Rattle.std.proofs.Common.{Some, Ok}
use Rattle.age_slices.specs.Opening.{OpensHeader}
use Rattle.age_slices.proofs.Files.{done, failed, place_within, refused_header, refused_short}
use Rattle.age_slices.proofs.reading.read_by_chunks.Goals as goal

pub returns-in-Ok-None : goal.returns-in-Ok-None
returns-in-Ok-None g c =
    refused_short g.I.Identity.unwraps g.S.Suite.seal_of g.S.Suite.opened c.args.identities.now c.open_header_by.new.identities c.args.file.now
    (rw c.in-Ok-None.field-0-is at c.in-Ok-None.ensures)

pub returns-in-Err : goal.returns-in-Err
returns-in-Err g c =
    refused_header g.I.Identity.unwraps g.S.Suite.seal_of g.S.Suite.opened c.args.identities.now c.open_header_by.new.identities c.args.file.now
    c.in-Err.error c.in-Err.ensures

pub behind-sealed-requires : goal.behind-sealed-requires
behind-sealed-requires g c =
    let told : OpensHeader g.I.Identity.unwraps c.args.identities.now c.open_header_by.new.identities c.args.file.now (Ok (Some c.in-Ok-Some.at)) =
    rw c.in-Ok-Some.field-0-is at c.in-Ok-Some.ensures in
    place_within g.I.Identity.unwraps g.S.Suite.seal_of g.S.Suite.opened c.args.identities.now c.open_header_by.new.identities c.args.file.now
    c.in-Ok-Some.at told

pub returns-in-Ok : goal.returns-in-Ok
returns-in-Ok g c =
    let told : OpensHeader g.I.Identity.unwraps c.args.identities.now c.open_header_by.new.identities c.args.file.now (Ok (Some c.in-Ok-Some.at)) =
    rw c.in-Ok-Some.field-0-is at c.in-Ok-Some.ensures in
    done g.I.Identity.unwraps g.S.Suite.seal_of g.S.Suite.opened c.args.identities.now c.open_header_by.new.identities c.args.file.now
    c.in-Ok-Some.at told c.known_array.ensures _ c.behind-sealed.ensures c.delivery_laws.ensures.opens_to_payload
    c.delivery_laws.ensures.payload_opens c.known_bytes.ensures c.in-Ok.plain.items c.in-Ok.ensures

pub returns-in-Err-plain_of : goal.returns-in-Err-plain_of
returns-in-Err-plain_of g c =
    let told : OpensHeader g.I.Identity.unwraps c.args.identities.now c.open_header_by.new.identities c.args.file.now (Ok (Some c.in-Ok-Some.at)) =
    rw c.in-Ok-Some.field-0-is at c.in-Ok-Some.ensures in
    failed g.I.Identity.unwraps g.S.Suite.seal_of g.S.Suite.opened c.args.identities.now c.open_header_by.new.identities c.args.file.now
    c.in-Ok-Some.at told c.known_array.ensures _ c.behind-sealed.ensures c.delivery_laws.ensures.payload_opens
    c.in-Err-plain_of.error c.in-Err-plain_of.ensures
