use Rattle.std.proofs.Common.{rules, ◌≡◌, ◌∙◌, ℕ, ◌+◌, ◌-◌, ◌*◌, ◌≤◌, ◌++◌, List, length, drop, ap, arith, length-drop}
use Rattle.age_io.specs.CopyingLemmas.{front-none}
use Rattle.age_stream.specs.Writing.{WasMade, Took}
use Rattle.age_stream.specs.WritingLemmas.{Appended-took, sealed-last}
use Rattle.age_v1.specs.Payload.{Seal}
use Rattle.age_stream.specs.declared.writer.StreamWriter.{StreamWriter}
use Rattle.age_stream.proofs.writer.StreamWriter.close.Goals as goal

pub returns-clause-ok : goal.returns-clause-ok
returns-clause-ok g c = λ told. let writer = c.args.self.now in
    sealed-last g.S.Suite.seal_of g.W.Write.appended g.met.W.Write.joins writer c.write_chunk.new.inner
    (omega (arith, writer.one_piece, writer.held.ok.0)) c.if-self.false (rw c.deref.ensures.value at (c.in_ok-write_chunk.ensures.sent told))

counted : (sealed count size held : ℕ) → sealed ≡ 0 + count → 65536 * count ≤ size → held ≡ size - 65536 * count → 65536 * sealed + held ≡ size
counted sealed count size held same fits is = omega (arith, same, fits, is)

-- of a writer that was made empty, what it sealed and what it holds are what it took
all_taken : {S W : Type 0} (seal_of : Seal) (appended : W → List ℕ → W → Type 0) (key plain : List ℕ) (first : W)
    (start writer : StreamWriter S W) → WasMade key first start → Took seal_of appended start plain writer
    → 65536 * writer.sealed + length writer.held.items ≡ length plain
all_taken seal_of appended key plain first start writer made took =
    let sending = took.sending in
    let text : start.held.items ++ plain ≡ plain = ap (λ l. l ++ plain) made.none_held in
    let held : length writer.held.items ≡ length (drop (65536 * sending.count) plain) =
    ap length (sending.held ∙ ap (drop (65536 * sending.count)) text) in
    let sealed : writer.sealed ≡ 0 + sending.count = sending.sealed ∙ ap (λ n. n + sending.count) made.none_sealed in
    let fits : 65536 * sending.count ≤ length plain = rw text at sending.fits in
    counted writer.sealed sending.count (length plain) (length writer.held.items) sealed fits (held ∙ length-drop (65536 * sending.count) plain)

pub returns-clause-within : goal.returns-clause-within
returns-clause-within g c = λ start key plain first made appended.
    let writer = c.args.self.now in
    let all = all_taken g.S.Suite.seal_of g.W.Write.appended key plain first start writer made
    (Appended-took g.S.Suite.seal_of g.W.Write.appended start writer plain c.if-self.false appended) in
    omega (arith, all, writer.in_limit, writer.held.ok.0)

pub returns-clause-closes : goal.returns-clause-closes
returns-clause-closes g c =
    let keeps = c.in_ok-write_chunk.ensures.keeps in
    record {
      failed = search rules;
      fails = search rules;
      why = search rules;
      hands_back = record { same_tells = keeps.same_tells; no_fewer_faults = keeps.no_fewer_faults; narrows = keeps.narrows };
      inner = λ good. record {
        same_tells = keeps.same_tells;
        no_fewer_faults = keeps.no_fewer_faults;
        device = tt;
        why = tt;
        narrows = keeps.narrows;
      };
    }

-- it had failed
pub returns-then-self-clause-front : goal.returns-then-self-clause-front
returns-then-self-clause-front g c = λ told. front-none g.W.Write.appended g.met.W.Write.appends_nothing _ _
