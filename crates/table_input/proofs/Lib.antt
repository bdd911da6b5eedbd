pub mod StartsLaws
