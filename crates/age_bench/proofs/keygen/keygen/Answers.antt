use Rattle.std.specs.Prelude.{ℕ, List, take, drop}
use Rattle.std.proofs.Common.{◌≡◌, ◌∙◌, sym, ap, subst, inr, [], ◌∷◌, ◌++◌}
use Rattle.std.proofs.lemmas.List.{append-nil, take-append-drop}
use Rattle.age.specs.Bech32Written.{bech32_text}
use Rattle.age.specs.Copying.{AppendsFront}
use Rattle.age.specs.X25519.{identity_prefix}
use Rattle.age_bench.proofs.BenchFiles.{were_enough}
use Rattle.age_bench.proofs.keygen.keygen.Goals as goal

-- the line of an identity
abbrev line_by : List ℕ → List ℕ
line_by secret = bech32_text identity_prefix secret ++ 10 ∷ []

-- the first n bytes of a line are a beginning of it
front_of : {W : Type 0} (appended : W → List ℕ → W → Type 0) (n : ℕ) (line known : List ℕ) (old new : W) → line ≡ known
    → appended old (take n line) new
    → AppendsFront appended known old new
front_of appended n line known old new is out =
    record { front = take n line; after = drop n line; joined = sym is ∙ sym (take-append-drop n line); out = out }

-- and so is all of it
all_of : {W : Type 0} (appended : W → List ℕ → W → Type 0) (line known : List ℕ) (old new : W) → line ≡ known → appended old line new
    → AppendsFront appended known old new
all_of appended line known old new is out = record { front = line; after = []; joined = sym is ∙ sym (append-nil line); out = out }

pub returns-clause-text : goal.returns-clause-text
returns-clause-text g c = λ told.
    let (long, is, rest) = were_enough 32 c.args.draw c.in-Some.identity (sym c.in-Some.ensures.secret) in
    let line_is = c.deref.ensures.value ∙ c.in_ok-line.ensures.line ∙ ap line_by is in
    let all = c.in_ok-write_all.ensures.writes in
    let flushed = c.in_ok-flush_retrying.ensures.flushes in
    let both = g.met.W.Write.joins _ _ _ _ [] (all.takes_all told) (flushed.nothing (all.same_tells ∙ told)) in
    (long, subst (λ line. g.W.Write.appended c.args.writer.now line c.flush_retrying.new.writer) line_is (rw append-nil at both))

pub returns-clause-front : goal.returns-clause-front
returns-clause-front g c = λ told.
    let (long, is, rest) = were_enough 32 c.args.draw c.in-Some.identity (sym c.in-Some.ensures.secret) in
    let line_is = c.deref.ensures.value ∙ c.in_ok-line.ensures.line ∙ ap line_by is in
    let all = c.in_ok-write_all.ensures.writes in
    let flushed = c.in_ok-flush_retrying.ensures.flushes in
    let both = g.met.W.Write.joins _ _ _ _ [] (all.takes_all told) (flushed.nothing (all.same_tells ∙ told)) in
    inr (all_of g.W.Write.appended _ _ c.args.writer.now c.flush_retrying.new.writer line_is (rw append-nil at both))

pub returns-in_err-flush_retrying-clause-front : goal.returns-in_err-flush_retrying-clause-front
returns-in_err-flush_retrying-clause-front g c = λ told.
    let (long, is, rest) = were_enough 32 c.args.draw c.in-Some.identity (sym c.in-Some.ensures.secret) in
    let line_is = c.deref.ensures.value ∙ c.in_ok-line.ensures.line ∙ ap line_by is in
    let all = c.in_ok-write_all.ensures.writes in
    let flushed = c.in_err-flush_retrying.ensures.flushes in
    let both = g.met.W.Write.joins _ _ _ _ [] (all.takes_all told) (flushed.nothing (all.same_tells ∙ told)) in
    inr (all_of g.W.Write.appended _ _ c.args.writer.now c.flush_retrying.new.writer line_is (rw append-nil at both))

pub returns-in_err-write_all-clause-front : goal.returns-in_err-write_all-clause-front
returns-in_err-write_all-clause-front g c = λ told.
    let (long, is, rest) = were_enough 32 c.args.draw c.in-Some.identity (sym c.in-Some.ensures.secret) in
    let line_is = c.deref.ensures.value ∙ c.in_ok-line.ensures.line ∙ ap line_by is in
    let (n, fits, out) = c.in_err-write_all.ensures.writes.takes_front told in
    inr (front_of g.W.Write.appended n _ _ c.args.writer.now c.write_all.new.writer line_is out)
