pub mod RainLaws
