pub mod Keys
pub mod Looks
pub mod Own
pub mod ProtectedKeys
pub mod RecordAnswers
pub mod RecordFiles
pub mod RecordsBack
pub mod Turns
