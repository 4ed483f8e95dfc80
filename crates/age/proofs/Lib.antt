-- lemmas on the definitions that are passed on, layer by layer
pub use Rattle.age_io.proofs.Delivering
pub use Rattle.age_io.proofs.Copied
pub use Rattle.age_io.proofs.PartCopied
pub use Rattle.age_base64.proofs.Columns
pub use Rattle.age_v1.proofs.Cuts
pub use Rattle.age_v1.proofs.Payloads
pub use Rattle.age_v1.proofs.StandingBytes as StreamStanding
pub use Rattle.age_stream.proofs.Remaining as StreamRemaining
pub use Rattle.age_stream.proofs.Answered as StreamAnswered
pub use Rattle.age_v1.proofs.Strings
pub use Rattle.age_format.proofs.Tags
pub use Rattle.age_format.proofs.Outcomes
pub use Rattle.age_keys.proofs.RefusedTexts
pub use Rattle.age_keys.proofs.Strings as KeyStrings
pub use Rattle.age_protocol.proofs.Fronts
pub use Rattle.age_protocol.proofs.Accepted
pub use Rattle.age_protocol.proofs.Opened
pub use Rattle.age_protocol.proofs.OneFile
pub use Rattle.age_protocol.proofs.Files
pub use Rattle.age_protocol.proofs.Decrypted
pub use Rattle.age_protocol.proofs.DecryptingStreams
pub use Rattle.age_protocol.proofs.OpenedFor
pub use Rattle.age_protocol.proofs.Parts
pub use Rattle.age_protocol.proofs.Standing
