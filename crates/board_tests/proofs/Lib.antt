pub mod SlotPage
