pub mod TableLaws
pub mod InUseLaws
pub mod CountLaws
pub mod HeldLaws
pub mod SameLaws
