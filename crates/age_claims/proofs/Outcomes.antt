-- What a refusal comes to.
use Rattle.std.specs.Prelude.{◌≡◌, ◌⊎◌, ℕ, ◌^◌, ◌<◌, Result, Ok, Err, IfErr, MatchResult}
use Rattle.std.proofs.Common.{inl, inr, subst}
use Rattle.age.specs.DecryptErrors.{OutOfMemory as no_memory}
use Rattle.age.specs.EncryptErrors.{EncryptRefusal}
use Rattle.age.specs.ErrorVariants.{OutOfMemory}
use Rattle.age.specs.Types.{Error, FileError}
use Rattle.age.specs.FileErrorVariants.{Io, Encrypt, Decrypt}
use Rattle.age.specs.FileErrors.{IsWant, IfIo, DecryptsUnless, EncryptsUnless}
use Rattle.age.specs.Writing.{HandsOn}
use Rattle.age.specs.WholeFiles.{RefusesFile}
use Rattle.age_claims.specs.Claims.{RefusesBack, RefusesRekeying}

-- what both say of a result
pub match_weaker : {T E : Type 0} (P R : T → Type 0) (Q S : E → Type 0) (result : Result T E) → MatchResult result P Q
    → ((x : T) → P x → R x) → ((e : E) → Q e → S e) → MatchResult result R S
match_weaker P R Q S (Ok x) h f g = f x h
match_weaker P R Q S (Err e) h f g = g e h

-- what two clauses say of an error
pub by_both : {T E : Type 0} (P Q R : E → Type 0) (result : Result T E) → IfErr result P → IfErr result Q → ((e : E) → P e → Q e → R e)
    → IfErr result R
by_both P Q R (Ok x) p q f = tt
by_both P Q R (Err e) p q f = f e p q

-- ---- of lists

-- a list refuses for want of memory alone
abbrev pub ForMemory : {W : Type 0} → W → ℕ → Error → Type 0
ForMemory w n e = e ≡ OutOfMemory

handed : {W : Type 0} (w : W) (e : Error) → HandsOn ForMemory w e → e ≡ OutOfMemory
handed w e (n, inl (p, memory)) = memory
handed w e (n, inr (is, memory)) = absurd (Prim.cc)

-- so a file for the identities is refused for want of memory alone, where it is decrypted into a list
pub want_of : {W : Type 0} (w : W) (e : FileError) → DecryptsUnless (λ refusal. refusal ≡ no_memory) e
    → IfIo (λ x. (x ≡ OutOfMemory) ⊎ HandsOn ForMemory w x) e → IsWant e
want_of w (Io e) d (inl memory) = memory
want_of w (Io e) d (inr hands) = handed w e hands
want_of w (Encrypt e) d i = d
want_of w (Decrypt e) d i = d

pub want_back : (P : EncryptRefusal → Type 0) (size : ℕ) (e : FileError) → IsWant e → RefusesBack P size e
want_back P size (Io e) want = inl want
want_back P size (Encrypt e) want = absurd want
want_back P size (Decrypt e) want = want

-- and a plaintext for that, for its length, or as the encryptor refuses, where it is encrypted into a list
pub refused_back : {W : Type 0} (X : Type 0) (Why : Error → Type 0) (w : W) (size told : ℕ) (P : EncryptRefusal → Type 0) (e : FileError)
    → size ≡ told
    → EncryptsUnless P e → IfIo (λ x. X × Why x) e → ((x : Error) → Why x → RefusesFile ForMemory w size x) → RefusesBack P told e
refused_back X Why w size told P (Io e) same why (x, refused) of_file = elim (of_file e refused) [
  | inl long ↦ inr (long.0, subst (λ (n : ℕ). 2 ^ 60 < n) same long.1)
  | inr (inl memory) ↦ inl memory
  | inr (inr hands) ↦ inl (handed w e hands)
]
refused_back X Why w size told P (Encrypt e) same why i of_file = why
refused_back X Why w size told P (Decrypt e) same why i of_file = absurd why

-- ---- of any writer

pub want_rekeying : {W : Type 0} (P : EncryptRefusal → Type 0) (refuses : W → ℕ → Error → Type 0) (w : W) (size : ℕ) (e : FileError) → IsWant e
    → RefusesRekeying P refuses w size e
want_rekeying P refuses w size (Io e) want = inr (inl want)
want_rekeying P refuses w size (Encrypt e) want = absurd want
want_rekeying P refuses w size (Decrypt e) want = want

pub refused_rekeying : {W : Type 0} (X : Type 0) (Why : Error → Type 0) (refuses : W → ℕ → Error → Type 0) (w : W) (size told : ℕ)
    (P : EncryptRefusal → Type 0) (e : FileError) → size ≡ told → EncryptsUnless P e → IfIo (λ x. X × Why x) e
    → ((x : Error) → Why x → RefusesFile refuses w size x) → RefusesRekeying P refuses w told e
refused_rekeying X Why refuses w size told P (Io e) same why (x, refused) of_file =
    subst (λ (n : ℕ). RefusesFile refuses w n e) same (of_file e refused)
refused_rekeying X Why refuses w size told P (Encrypt e) same why i of_file = why
refused_rekeying X Why refuses w size told P (Decrypt e) same why i of_file = absurd why
