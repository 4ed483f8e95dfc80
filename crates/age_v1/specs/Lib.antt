-- the definition, in the order of the standard's sections
pub mod Stanza
pub mod Header
pub mod HeaderMac
pub mod Payload
pub mod File
pub mod Armor
pub mod Recipients
pub mod Encrypting
pub mod Identities
pub mod RecipientType
pub mod X25519
pub mod Scrypt
pub mod Claims
-- what a reader makes of any bytes, and what is true of them
pub mod HeaderTexts
pub mod HeaderVerdict
pub mod DeliveredPayload
pub mod PayloadRefusals
pub mod PayloadAnswers
pub mod PayloadTargets
pub mod PayloadLaws
pub mod ArmorFullLines
pub mod ArmorLineVerdict
pub mod ArmorFirstFault
pub mod DeliveredArmor
pub mod Belonging
