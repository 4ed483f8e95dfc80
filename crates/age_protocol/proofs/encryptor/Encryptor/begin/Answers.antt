use Rattle.std.proofs.Common.{Err, refl, subst}
use Rattle.age_error.specs.Bytes.{AreBytes}
use Rattle.age_io.specs.Writing.{WritesAll, Retried, OrMemory}
use Rattle.age_stream.specs.Writing.{WasMade}
use Rattle.age_v1.specs.File.{file_text, IsFileOf}
use Rattle.age_protocol.specs.Starting.{GivesUp, Starts}
use Rattle.age_protocol.proofs.Files.{front_is, writes_file, is_file, file_bytes}
use Rattle.age_protocol.proofs.Writing.{front-narrows}
use Rattle.age_protocol.proofs.encryptor.Encryptor.begin.Goals as goal

pub returns-clause-refused : goal.returns-clause-refused
returns-clause-refused g c =
    let inside = c.self.inside in
    let written = c.in-Err.ensures.writes in
    subst (λ file. GivesUp g.W.Write.tells g.W.Write.faults g.W.Write.refuses g.W.Write.appended file c.args.output c.write_front.new.output
    c.in-Err.error) c.self.view_is
    (subst (λ front. WritesAll {T = Unit {0}} g.W.Write.tells g.W.Write.faults
    (OrMemory (Retried g.W.Write.refuses)) g.W.Write.appended c.args.output c.write_front.new.output
    front (Err c.in-Err.error)) (front_is inside.file_key inside.header inside.nonce _ c.self.invariant refl) (record {
      same_tells = written.same_tells;
      no_fewer_faults = written.no_fewer_faults;
      device = written.device;
      why = written.why;
      narrows = tt;
      takes_all = written.takes_all;
      takes_front = written.takes_front;
    }))

pub returns-in-Ok-clause-starts : goal.returns-in-Ok-clause-starts
returns-in-Ok-clause-starts g c =
    let inside = c.self.inside in
    let written = c.in-Ok.ensures.writes in
    subst (λ file. Starts g.W.Write.tells g.W.Write.faults g.W.Write.refuses g.W.Write.appended file c.args.output c.with_room.result)
    c.self.view_is (record {
      inner = c.write_front.new.output;
      made = subst (λ key. WasMade key c.write_front.new.output c.with_room.result) c.payload_key_of-key.ensures c.with_room.ensures.made;
      same_tells = written.same_tells;
      no_fewer_faults = written.no_fewer_faults;
      narrows = front-narrows g.W.Write.refuses c.args.output c.write_front.new.output _ written.narrows;
      front = λ told. subst (λ front. g.W.Write.appended c.args.output front c.write_front.new.output)
          (front_is inside.file_key inside.header inside.nonce _ c.self.invariant refl) (written.takes_all told);
    })

pub returns-in-Ok-clause-file : goal.returns-in-Ok-clause-file
returns-in-Ok-clause-file g c = λ told. writes_file g.S.Suite.seal_of g.W.Write.tells g.W.Write.faults g.W.Write.refuses g.W.Write.appended _
    g.met.W.Write.joins c.args.self c.args.output c.with_room.result told (returns-in-Ok-clause-starts g c)

pub returns-in-Ok-clause-is_file : goal.returns-in-Ok-clause-is_file
returns-in-Ok-clause-is_file g c = λ plain.
    let inside = c.self.inside in
    subst (λ file. IsFileOf g.S.Suite.seal_of file.file_key file.stanzas plain
    (file_text g.S.Suite.seal_of file.file_key file.stanzas file.nonce plain)) c.self.view_is
    (is_file g.S.Suite.seal_of inside.file_key inside.header inside.nonce plain c.self.invariant)

pub returns-in-Ok-clause-bytes : goal.returns-in-Ok-clause-bytes
returns-in-Ok-clause-bytes g c = λ plain each.
    let inside = c.self.inside in
    subst (λ file. AreBytes (file_text g.S.Suite.seal_of file.file_key file.stanzas file.nonce plain)) c.self.view_is
    (file_bytes g.S.Suite.seal_of inside.file_key inside.header inside.nonce plain c.mac_laws.ensures.key_bytes c.payload_laws.ensures.length
    c.self.invariant c.in-Ok.ensures.bytes each)
