-- What WITH names belongs to what TO names.
use Rattle.std.specs.Prelude.{ℕ, List, ◌++◌}
use Rattle.std.proofs.Common.{inl, sym, subst}
use Rattle.age.specs.Belonging.{BelongsTo}
use Rattle.age.specs.Stanza.{StanzaValue}
use Rattle.age.specs.Identities.{UnwrapAnswer, Steady, FirstOf}
use Rattle.age.specs.AskedInTurn.{either_way}
use Rattle.age.specs.X25519.{WrapsFor, UnwrapsBy}
use Rattle.age.specs.X25519Laws as x25519
use Rattle.age.specs.Scrypt.{PassphraseRecipient, PassphraseIdentity, WrapsUnder, UnwrapsUnder}
use Rattle.age.specs.ScryptLaws.{IsMeantFor}
use Rattle.age.specs.ScryptLaws as scrypt
use Rattle.age_bench.specs.Bench.{bench_seal, bench_opened, bench_shared, bench_public, bench_stretch, bench_accepts}
use Rattle.age_bench.specs.Names.{AsksWith, WrapsTo, GoesWith, is_other_to}
use Rattle.age_bench.specs.Recipient.{BenchAsks, BenchWraps, has_other_tag}
use Rattle.age_bench.specs.declared.names.To.{To}
use Rattle.age_bench.specs.declared.names.To.TheVariants as to
use Rattle.age_bench.specs.declared.names.With.{With}
use Rattle.age_bench.specs.declared.names.With.TheVariants.{Bench, Key, Passphrase}
use Rattle.age_bench.proofs.Answered.{as_other}

-- it belongs to a recipient that it goes with
abbrev pub IsPaired : To → With → Type 0
IsPaired recipient with_ = GoesWith recipient with_ → BelongsTo WrapsTo (FirstOf (Steady AsksWith)) (is_other_to with_) recipient with_

own_bench : {R I : Type 0} (recipient : R) (identity : I)
    → BelongsTo (λ r. BenchWraps) (FirstOf (Steady (λ i. BenchAsks))) has_other_tag recipient identity
    → IsPaired to.Bench Bench
own_bench recipient identity pair goes file_key wrapped before later answer after sixteen wraps_so strange asked =
    let stanzas = before ++ (wrapped.stanzas ++ later) in
    pair file_key wrapped before later answer identity sixteen wraps_so strange
    (inl (as_other AsksWith (λ i. BenchAsks) Bench identity (λ s own h. h) stanzas answer (either_way AsksWith Bench stanzas answer after asked)))

pub bench_paired : {R I : Type 0} (recipient : R) (identity : I)
    → BelongsTo (λ r. BenchWraps) (FirstOf (Steady (λ i. BenchAsks))) has_other_tag recipient identity
    → (named : To) → IsPaired named Bench
bench_paired recipient identity pair to.Bench goes = own_bench recipient identity pair goes
bench_paired recipient identity pair (to.Key public) goes = absurd goes
bench_paired recipient identity pair (to.Passphrase other) goes = absurd goes

abbrev KeyAsks : List ℕ → StanzaValue → UnwrapAnswer → Type 0
KeyAsks secret stanza answer = UnwrapsBy bench_opened bench_shared bench_public secret stanza answer

own_key : (secret : List ℕ)
    → BelongsTo (WrapsFor bench_seal bench_shared bench_public) (FirstOf (Steady KeyAsks)) x25519.has_other_tag (bench_public secret) secret
    → IsPaired (to.Key (bench_public secret)) (Key secret)
own_key secret pair goes file_key wrapped before later answer after sixteen wraps_so strange asked =
    let stanzas = before ++ (wrapped.stanzas ++ later) in
    pair file_key wrapped before later answer secret sixteen wraps_so strange
    (inl (as_other AsksWith KeyAsks (Key secret) secret (λ s own h. h) stanzas answer (either_way AsksWith (Key secret) stanzas answer after asked)))

pub key_paired : (secret : List ℕ)
    → BelongsTo (WrapsFor bench_seal bench_shared bench_public) (FirstOf (Steady KeyAsks)) x25519.has_other_tag (bench_public secret) secret
    → (named : To) → IsPaired named (Key secret)
key_paired secret pair to.Bench goes = absurd goes
key_paired secret pair (to.Key public) goes = subst (λ p. IsPaired (to.Key p) (Key secret)) (sym goes) (own_key secret pair) goes
key_paired secret pair (to.Passphrase other) goes = absurd goes

abbrev PassphraseAsks : PassphraseIdentity → StanzaValue → UnwrapAnswer → Type 0
PassphraseAsks identity stanza answer = UnwrapsUnder bench_opened bench_stretch bench_accepts identity stanza answer

pub passphrase_paired : (recipient : PassphraseRecipient) (identity : PassphraseIdentity)
    → (IsMeantFor recipient identity
    → BelongsTo (WrapsUnder bench_seal bench_stretch bench_accepts) (FirstOf (Steady PassphraseAsks)) scrypt.has_other_tag recipient identity)
    → IsPaired (to.Passphrase recipient) (Passphrase identity)
passphrase_paired recipient identity pair goes file_key wrapped before later answer after sixteen wraps_so strange asked =
    let stanzas = before ++ (wrapped.stanzas ++ later) in
    pair goes file_key wrapped before later answer identity sixteen wraps_so strange
    (inl (as_other AsksWith PassphraseAsks (Passphrase identity) identity (λ s own h. h) stanzas answer
    (either_way AsksWith (Passphrase identity) stanzas answer after asked)))
